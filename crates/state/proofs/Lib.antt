-- Laws that the proofs of several functions cite, here and in the crates above.
pub mod Tests
pub mod Facts
pub mod Decide
