-- What follows from the definitions of specs/ and the reasons for the answers there: what the proofs use, how the calls fit together, and worked
-- examples.
pub mod Reading
pub mod Exchange
pub mod Examples
