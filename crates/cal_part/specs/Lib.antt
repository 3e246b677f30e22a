pub mod RunBelow
pub mod SameHierarchy
pub mod RenamedDesign
pub mod FrontOfDesign
pub mod SameLooks
pub mod WireRules
pub mod HeldDesign
pub mod Laws
