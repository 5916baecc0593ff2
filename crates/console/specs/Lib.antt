-- What the command program reads and hands over. A reader has to believe Transcript, Session and Opened. Needs is what inner functions promise one
-- another, and Facts is proved.
pub mod Transcript
pub mod Session
pub mod Opened
pub mod Needs
pub mod Facts
