pub mod Fronts
pub mod Values
pub mod Gaps
pub mod Words
pub mod Cuts
pub mod TokenTexts
pub mod Nestings
pub mod Pieces
