-- Messages. A reader has to believe Waiting and Numbers. Needs is what the functions promise, and the rest is proved.
pub mod Waiting
pub mod Numbers
pub mod Needs
pub mod Facts
