-- The program that says whether a plan is sound from a script's planner. A reader has to believe Script.
pub mod Script
