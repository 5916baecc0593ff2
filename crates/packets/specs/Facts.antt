-- What is proved of the definitions beside this folder; a reader may believe it unread.
pub mod Good
pub mod Met
pub mod Numbers
pub mod Reading
pub mod Writing
