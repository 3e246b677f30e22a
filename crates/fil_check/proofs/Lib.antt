pub mod DesignLemmas
pub mod ExactLemmas
pub mod NeededLemmas
pub mod RefusedLemmas
pub mod ToldLemmas
pub mod UnitLemmas
pub mod UnitMeetLemmas
pub mod WeightLemmas
