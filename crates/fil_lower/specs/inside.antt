-- What only the functions and the proofs inside the crate speak of.
pub mod Parts
pub mod Place
pub mod Plan
pub mod PlanRules
pub mod Lowered
pub mod Laws
pub mod PlanOf
pub mod PlanLaws
pub mod LoweredDesign
pub mod Lowering
pub mod LoweringLaws
