-- What a reader must believe of this crate; work holds what its functions promise each other, no part of an operation's
-- promise.
pub mod FloorLog
pub mod Heads
pub mod Hops
pub mod Spine
pub mod work
