-- Laws of the C functions, by topic. That each promise allows one outcome stands in Only.
pub mod Only
pub mod OnlyWith
pub mod Rows
pub mod RowsWith
pub mod Shown
