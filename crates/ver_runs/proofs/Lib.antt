mod GuardValueLemmas
mod ChainLemmas
mod WidthLemmas
mod DrivenLemmas
mod RowLemmas
