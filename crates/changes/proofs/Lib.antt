-- Laws of claim, commit and abort, by topic. Theorems has what they change, Freed what is free afterwards; Only that
-- each promise allows one outcome.
pub mod Held
pub mod Climbing
pub mod Replacing
pub mod Changed
pub mod Claims
pub mod Only
pub mod Either
pub mod Theorems
pub mod Freed
