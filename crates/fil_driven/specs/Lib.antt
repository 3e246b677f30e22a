pub mod TxDrive
pub mod Shown
pub mod Laws
