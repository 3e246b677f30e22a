-- What only the functions and the proofs inside the crate speak of.
pub mod Making
pub mod Threads
pub mod States
pub mod Encoded
pub mod Laws
