pub mod PrimitiveLemmas
pub mod UseLemmas
pub mod HoldLemmas
pub mod SharingLemmas
