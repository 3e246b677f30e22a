pub mod inside
pub mod Byte
pub mod Number
pub mod Word
pub mod Gap
pub mod Cut
pub mod Nesting
