-- Plans that somebody else made. A reader has to believe Plans, Rules and Verdicts. Columns and Needs are what inner functions promise one another, and
-- Facts is proved.
pub mod Plans
pub mod Rules
pub mod Verdicts
pub mod Columns
pub mod Needs
