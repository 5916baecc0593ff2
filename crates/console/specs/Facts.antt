-- What is proved of the definitions beside this folder; a reader may believe it unread.
pub mod LineEnds
pub mod Transcript
pub mod Moves
pub mod Session
pub mod Turns
pub mod SameTranscripts
pub mod SameScript
pub mod Opened
