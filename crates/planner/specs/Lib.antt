-- The planner's calls on what the crate state has. A reader has to believe AddRemove, Send and Round. Needs is what inner functions promise one another, and
-- the rest is proved.
pub mod AddRemove
pub mod Send
pub mod Round
pub mod Needs
