pub mod ListLemmas
pub mod TopLemmas
pub mod FilLemmas
pub mod CostLemmas
pub mod CalLemmas
pub mod LeftOutLemmas
pub mod StimulusLemmas
mod LoadLemmas
pub mod CauseLemmas
pub mod InputPortLemmas
pub mod SettableLemmas
pub mod FitLemmas
pub mod TransactionLemmas
pub mod LegalLemmas
