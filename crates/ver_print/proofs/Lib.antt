pub mod PutLemmas
pub mod GuardLemmas
pub mod SideLemmas
pub mod PortLemmas
pub mod DriverLemmas
pub mod DriveLemmas
pub mod LineLemmas
pub mod TextLemmas
mod TestLemmas
