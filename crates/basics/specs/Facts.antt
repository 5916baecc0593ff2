-- What is proved of the definitions beside this folder; a reader may believe it unread.
pub mod Sorted
pub mod Members
pub mod Places
pub mod Decides
pub mod Lexicographic
pub mod Refusals
pub mod OneTo
pub mod Below
