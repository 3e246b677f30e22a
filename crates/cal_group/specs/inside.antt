-- What only the functions and the proofs inside the crate speak of.
pub mod Expansion
pub mod Numeral
pub mod Expanded
pub mod Removed
pub mod Ruling
pub mod Laws
