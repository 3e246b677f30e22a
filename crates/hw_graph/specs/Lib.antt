pub mod inside
pub mod Cuts
pub mod Groups
pub mod ByName
pub mod Graph
pub mod Loop
pub mod Walk
pub mod Reach
