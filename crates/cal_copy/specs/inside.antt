-- What only the functions and the proofs of this crate and of those that lower designs speak of.
pub mod Negations
pub mod Copies
