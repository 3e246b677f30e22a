pub use Rattle.hw_io.specs.Faults
pub use Rattle.hw_io.specs.Writing
pub mod Language
pub mod Lines
pub mod Status
pub mod Stops
pub mod Outcome
pub mod Leaving
