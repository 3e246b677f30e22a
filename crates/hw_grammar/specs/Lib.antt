pub mod inside
pub mod Sort
pub mod Terminals
pub mod Grammar
pub mod Place
pub mod Reading
pub mod TextPlace
pub mod Words
