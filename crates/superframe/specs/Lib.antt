-- What the contracts of the crate cite. A reader has to believe Least, Periods and Superframe. Multiples is what inner functions promise one
-- another, Decide has the deciders, and the rest is proved.
pub mod Least
pub mod Periods
pub mod Decide
pub mod Superframe
pub mod Multiples
pub mod Facts
