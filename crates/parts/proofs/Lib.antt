-- Laws of this crate, by topic. Numbered and Climbs serve the crates above.
pub mod Parts
pub mod Splitting
pub mod Frames
pub mod Keys
pub mod Folding
pub mod Measure
pub mod Numbered
pub mod Climbs
