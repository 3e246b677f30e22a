pub mod DelayLemmas
pub mod FreshLemmas
pub mod GrownLemmas
mod PartLemmas
pub mod NumberLemmas
