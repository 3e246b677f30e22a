pub mod inside
pub mod Separate
pub mod Wires
pub mod Lowers
