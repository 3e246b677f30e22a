pub mod inside
pub mod Grammar
pub mod Spelling
