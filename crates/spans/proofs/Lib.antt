-- Laws of this crate, by topic; Often, Merging and Order serve the crates above.
pub mod Passing
pub mod Often
pub mod Merging
pub mod Copying
pub mod Order
pub mod Joining
pub mod Only
