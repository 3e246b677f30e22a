mod WalkLemmas
mod OrderLemmas
