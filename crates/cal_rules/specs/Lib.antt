pub mod inside
pub mod FirstItem
pub mod LeastRule
