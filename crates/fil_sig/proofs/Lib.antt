pub mod ListLemmas
pub mod PinLemmas
pub mod ShapeLemmas
pub mod UseLemmas
