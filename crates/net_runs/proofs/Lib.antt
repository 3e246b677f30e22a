pub mod SettlingLemmas
pub mod OrderlyLemmas
pub mod ConflictLemmas
pub mod StopLemmas
pub mod TraceLemmas
pub mod LoopLemmas
pub mod NetRoleLemmas
pub mod NetRunLemmas
