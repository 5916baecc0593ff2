-- Laws that the proofs of several functions cite.
mod Tests
mod Refused
