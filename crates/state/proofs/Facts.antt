-- What is proved of the definitions beside this folder; a reader may believe it unread.
pub mod Table
pub mod Sound
pub mod Open
pub mod SoundTest
