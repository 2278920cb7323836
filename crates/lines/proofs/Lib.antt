-- Laws of the report's lines, by topic.
pub mod Told
pub mod Lining
pub mod Lengths
