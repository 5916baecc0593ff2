-- Notions that several crates share. A reader has to believe Refusals, Lexicographic, Limits, OneTo, Counts and Version. The others are what inner
-- functions promise one another, and Facts is proved.
pub mod Refusals
pub mod Answers
pub mod Lexicographic
pub mod Limits
pub mod OneTo
pub mod Counts
pub mod Version
pub mod Decides
pub mod Below
pub mod Places
pub mod NewIds
pub mod Facts
