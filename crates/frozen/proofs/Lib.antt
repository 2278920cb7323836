-- Laws of the operations with a change set.
pub mod Changing
pub mod None
pub mod Only
pub mod Theorems
pub mod Filler
