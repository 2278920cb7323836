-- Laws of what is told, by topic.
pub mod Sizes
pub mod Telling
