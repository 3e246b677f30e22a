pub mod inside
pub mod FirstLoop
