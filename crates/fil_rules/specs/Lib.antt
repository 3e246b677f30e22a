pub mod inside
pub mod FirstItem
pub mod Held
pub mod Least
pub mod LeastRule
