pub mod inside
pub mod Plans
pub mod Shown
pub mod Dataflow
