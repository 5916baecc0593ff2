-- Planners that hold the same answer alike. A reader has to believe Twins. Facts proves it.
pub mod Twins
