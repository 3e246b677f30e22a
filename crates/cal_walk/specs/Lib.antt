pub mod Left
pub mod Marking
pub mod Planning
pub mod Stages
pub mod StageTrees
pub mod Trees
