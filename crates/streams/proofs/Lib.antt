-- Laws of bytes that are read or written a part at a time.
pub mod Filling
pub mod Fronts
