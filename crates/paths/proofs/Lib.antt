-- Laws of the paths from one node, by topic.
pub mod Branch
pub mod Climbs
pub mod Fresh
pub mod Sweeps
pub mod Single
