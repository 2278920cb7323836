-- Laws of the texts that are written, by topic.
pub mod Texts
pub mod Rows
pub mod Spelt
pub mod Only
pub mod Theorems
