pub mod Name
pub mod inside
