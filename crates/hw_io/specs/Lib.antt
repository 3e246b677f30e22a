pub mod inside
pub mod Disk
pub mod Faults
pub mod MemFiles
pub mod MemSink
pub mod Reading
pub mod Writing
