-- What is proved of the definitions beside this folder; a reader may believe it unread.
pub mod Calls
pub mod SlotWalk
pub mod Kept
pub mod Mail
pub mod Listed
pub mod Files
pub mod ServedTable
pub mod Changes
pub mod Add
pub mod Choosing
pub mod Serving
pub mod Refused
