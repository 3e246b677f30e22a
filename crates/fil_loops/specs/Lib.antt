pub mod inside
pub mod Levels
pub mod OwnPorts
pub mod Wired
pub mod Wiring
