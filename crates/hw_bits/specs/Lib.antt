pub mod Width
pub mod Values
