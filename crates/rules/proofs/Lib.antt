pub mod Facts
pub mod Decide
