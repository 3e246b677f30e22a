pub mod inside
pub mod Folded
pub mod Simplified
pub mod SameRuns
pub mod KeepsText
