-- Laws of a mark's bits and what it reads as, of what a branch weighs under it, and of a climb under the marks.
pub mod Bits
pub mod Readings
pub mod Weights
pub mod Measuring
