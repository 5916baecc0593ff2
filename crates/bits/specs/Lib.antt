-- Sets of small numbers, which inner functions promise one another: a reader has to believe nothing here. Bits says what they are, Facts has their laws.
pub mod Bits
pub mod Facts
