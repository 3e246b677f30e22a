pub mod inside
pub mod Order
