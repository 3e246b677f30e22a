pub mod inside
pub mod Tree
pub mod Grammar
pub mod Spelling
pub mod Written
pub mod Numbers
