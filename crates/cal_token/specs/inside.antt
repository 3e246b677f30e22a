-- What only the functions and the proofs of the crates that lower control speak of.
pub mod Tokens
pub mod Coming
pub mod Laws
