pub mod Face
pub mod Lowers
pub mod Refining
pub mod Laws
