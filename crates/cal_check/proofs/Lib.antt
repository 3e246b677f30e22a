pub mod JudgeLemmas
pub mod TopLemmas
pub mod WeightLemmas
