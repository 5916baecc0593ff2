-- What is proved of the definitions beside this folder; a reader may believe it unread.
pub mod Refusals
pub mod Twins
pub mod Five
