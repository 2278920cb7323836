-- Laws of road-graph texts, by topic.
pub mod Places
pub mod Fields
pub mod Scanning
pub mod Bounds
pub mod Skipping
pub mod Reading
pub mod Only
pub mod Stepping
pub mod Surveying
pub mod Agreeing
