-- What only the functions inside the crate are specified by.
pub mod Arguments
pub mod Available
pub mod Holds
pub mod Invocation
pub mod Shared
pub mod Sharing
pub mod Stages
pub mod StandsAt
