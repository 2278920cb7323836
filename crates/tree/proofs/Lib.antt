-- Laws of acceptance, by topic, for this crate and those above.
pub mod Around
pub mod Begins
pub mod Bound
pub mod Eleven
pub mod Groups
pub mod Least
pub mod Theorems
pub mod Twelve
pub mod Meeting
