-- Laws of the report, by topic.
pub mod Coming
pub mod Paging
pub mod Level
pub mod Whole
pub mod Steps
pub mod Only
pub mod With
