pub mod Watching
pub mod Walking
