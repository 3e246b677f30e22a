pub mod LaneLemmas
pub mod RowLemmas
pub mod HeldLemmas
pub mod NarrowLemmas
pub mod InputLemmas
