-- Laws of numbers as bytes, by topic.
pub mod Stored
pub mod There
