-- Laws of acceptance with its count, by topic. Theorems has what an answer tells; Only that the promise allows one
-- outcome.
pub mod Counting
pub mod Only
pub mod Theorems
