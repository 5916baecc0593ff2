-- What is proved of the definitions beside this folder; a reader may believe it unread.
pub mod Answers
pub mod Puts
pub mod Text
pub mod Numbers
pub mod Fields
pub mod Lines
pub mod Commands
pub mod Unique
pub mod Runs
pub mod LineEnds
pub mod Inside
pub mod SameAnswers
pub mod SameRuns
