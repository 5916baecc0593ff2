-- What the forms over a lent planner promise. A reader has to believe Lent.
pub mod Lent
