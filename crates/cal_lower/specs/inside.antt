-- What only the functions and the proofs of this crate and of `cal_state` speak of.
pub mod Added
pub mod Labels
pub mod Making
pub mod Shown
pub mod Statements
pub mod Pieces
pub mod Parts
pub mod Lowered
pub mod Laws
