pub mod DotLemmas
pub mod NumeralLemmas
pub mod RankLemmas
pub mod ShortNameLemmas
