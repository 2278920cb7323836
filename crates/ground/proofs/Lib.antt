-- Laws of what a sweep over an accepted net stands on, and of the paths under the marks, by topic.
pub mod Alike
pub mod Bounds
pub mod Branching
pub mod Scanned
