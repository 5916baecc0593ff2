-- What a planner holds, when it is sound, and opening one. A reader has to believe Content, Sound, Open and Start. Needs is what inner functions promise
-- one another, and `sound_start` the calls above; Decide has the deciders, and the rest is proved.
pub mod Content
pub mod Sound
pub mod Start
pub mod Open
pub mod Needs
