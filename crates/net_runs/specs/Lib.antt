pub mod StoppedRun
pub mod Laws
