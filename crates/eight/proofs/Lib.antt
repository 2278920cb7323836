-- Laws of the eight numbers.
pub mod Counts
pub mod Numbers
