-- Laws of the writer of rows, by topic. Theorems has what was written, read back; Only that the promise allows one
-- outcome.
pub mod Stored
pub mod Only
pub mod Theorems
