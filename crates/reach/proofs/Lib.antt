-- Laws of the walk, by topic, for this crate and those above.
pub mod Chained
pub mod Queue
pub mod Walked
pub mod Placing
pub mod WalkOnly
pub mod Grown
pub mod Sweep
pub mod NetWalk
