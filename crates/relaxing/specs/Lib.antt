-- What a reader must believe of this crate: what its theorems compare.
pub mod Relaxed
