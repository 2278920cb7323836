-- Laws and theorems of the operation pair, by topic.
pub mod Shown
pub mod Only
pub mod Theorems
pub mod Holders
