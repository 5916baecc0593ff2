-- The command program's lines. A reader has to believe Text, Commands, Answers, Puts, Step, Lines, Runs and Script. Reads is what inner functions
-- promise one another, and Facts is proved.
pub mod Text
pub mod Commands
pub mod Puts
pub mod Answers
pub mod Step
pub mod Lines
pub mod Runs
pub mod Script
pub mod Reads
