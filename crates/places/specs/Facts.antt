-- What is proved of the definitions beside this folder; a reader may believe it unread.
pub mod Entries
pub mod Collected
pub mod Soundness
pub mod Marks
pub mod Filing
pub mod FilingSound
