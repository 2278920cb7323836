-- Laws of arcs, by topic.
pub mod Keys
pub mod Chunks
pub mod Loading
pub mod Looks
pub mod Streams
pub mod Pairs
pub mod Image
pub mod Deciding
pub mod Search
pub mod Halves
pub mod FirstArcs
pub mod Branches
pub mod RowBytes
pub mod Laying
pub mod Making
pub mod Theorems
pub mod Back
