-- The three demands, a held round as a packet, plans of others beside the planner's own, and worked cases. A reader has to believe CallLists, Rivals,
-- OtherCalls, One, Two, Three, Mail, Packets, Foreign and Cases. Decide has deciders, and Facts proves what they state.
pub mod CallLists
pub mod Rivals
pub mod Decide
pub mod OtherCalls
pub mod One
pub mod Two
pub mod Three
pub mod Mail
pub mod Packets
pub mod Foreign
pub mod Cases
