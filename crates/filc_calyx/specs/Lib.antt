pub mod inside
pub mod Made
pub mod Means
pub mod Scheduled
