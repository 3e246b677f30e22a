pub mod inside
pub mod MakesStates
