-- The rules of the planner. A reader has to believe Streams, Demand, Slots, Plans and Runs. In the words of Ready theorems and tests speak of
-- tables. Decide has the deciders, and the rest is proved.
pub mod Streams
pub mod Demand
pub mod Slots
pub mod Plans
pub mod Runs
pub mod Ready
