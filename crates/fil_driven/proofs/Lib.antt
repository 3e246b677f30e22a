pub mod ListLemmas
pub mod EventLemmas
pub mod FitLemmas
pub mod PortLemmas
pub mod AlikeLemmas
pub mod DriveLemmas
pub mod ShownLemmas
