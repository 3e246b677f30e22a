pub mod inside
pub mod ReplacesControl
