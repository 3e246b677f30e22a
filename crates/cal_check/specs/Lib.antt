pub mod inside
pub mod Refusals
pub mod Weight
