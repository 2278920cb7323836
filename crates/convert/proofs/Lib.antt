-- Laws of convert, by topic. Theorems has what an answer tells; Only that the promise allows one outcome.
pub mod Readings
pub mod Only
pub mod Theorems
