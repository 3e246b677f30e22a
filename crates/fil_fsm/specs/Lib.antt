pub mod Chain
pub mod Delays
pub mod Registers
