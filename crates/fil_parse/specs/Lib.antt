pub mod inside
pub mod Grammar
pub mod Spelling
pub mod Layout
pub mod Written
