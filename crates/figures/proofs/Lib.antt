-- Laws of this crate, by topic.
pub mod Leasts
pub mod Valuing
pub mod Paths
