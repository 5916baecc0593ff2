-- Laws that the proofs of several functions cite.
mod Euclid
mod Prefix
mod Fold
