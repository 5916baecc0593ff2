-- What is proved of the definitions beside this folder; a reader may believe it unread.
pub mod Streams
pub mod Table
pub mod Ids
pub mod Changes
pub mod Records
pub mod Moves
pub mod Lengths
pub mod RangeTests
pub mod Busy
pub mod Start
pub mod Search
