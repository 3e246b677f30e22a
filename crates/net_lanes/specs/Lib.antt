pub mod Lanes
pub mod LaneRuns
pub mod Held
pub mod Narrow
