pub mod Sharing
pub mod Laws
pub mod Instances
pub mod Uses
pub mod Own
pub mod Carried
pub mod Held
