-- What is proved of the definitions beside this folder; a reader may believe it unread.
pub mod Least
pub mod Periods
pub mod Superframe
pub mod PeriodTests
pub mod SuperframeTests
