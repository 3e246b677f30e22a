pub mod BitsLemmas
pub mod WidthLemmas
