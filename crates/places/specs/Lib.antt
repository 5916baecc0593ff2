-- Entries at 64 places, as plain arrays. A reader has to believe Order, Entries and Collected. Soundness, Changes, Filing and Lent are what
-- functions promise a queue above, Decide has the deciders, and the rest is proved.
pub mod Order
pub mod Entries
pub mod Collected
pub mod Soundness
pub mod Changes
pub mod Filing
pub mod Lent
pub mod Decide
pub mod Facts
