-- Laws of filled lists, of stores and of members, for this crate and those above.
pub mod Fills
pub mod Stores
pub mod Members
