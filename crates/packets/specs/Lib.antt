-- Which packets are good, and what reading and writing one answer and leave. A reader has to believe Good, Reading and Writing. Outcome and Met
-- are what inner functions promise one another; in Facts, how reading and writing fit together, and worked examples.
pub mod Good
pub mod Reading
pub mod Writing
pub mod Outcome
pub mod Met
pub mod Facts
