pub mod PrintLemmas
pub mod Sections
pub mod Rows
pub mod Marks
pub mod GuardsShown
pub mod LinesShown
pub mod ControlShown
pub mod Shown
