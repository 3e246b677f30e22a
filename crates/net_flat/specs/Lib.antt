pub mod inside
pub mod Flattened
pub mod FlatTop
pub mod Listing
pub mod Laws
