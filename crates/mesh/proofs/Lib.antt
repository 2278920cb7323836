-- The laws of this crate, by topic. Lists, walks and counts: Parts, Pigeon, Parity, Follow. The tree and its bands:
-- Hung, Cuts, Rings, Bound, Attain. What the loops keep: Repeating, Growing, Turning, Climbs, Sizing, Sweeping, Root,
-- Roots. The header and the rows: Front, Reading. What follows of an answer: Only, Theorems, Example.
pub mod Attain
pub mod Bound
pub mod Climbs
pub mod Cuts
pub mod Example
pub mod Follow
pub mod Front
pub mod Growing
pub mod Hung
pub mod Only
pub mod Parity
pub mod Parts
pub mod Pigeon
pub mod Reading
pub mod Repeating
pub mod Rings
pub mod Root
pub mod Roots
pub mod Sizing
pub mod Sweeping
pub mod Theorems
pub mod Turning
