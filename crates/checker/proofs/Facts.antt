-- What is proved of the definitions beside this folder; a reader may believe it unread.
pub mod Passing
pub mod Verdicts
pub mod Numbers
pub mod Sending
pub mod Columns
pub mod Rows
pub mod Slots
pub mod Fronts
pub mod Rules
pub mod Checking
