pub mod Spans
pub mod Paths
pub mod Lists
pub mod Needed
pub mod Alone
pub mod Events
