-- What a reader must believe of this crate; work holds what its functions promise each other, no part of an operation's
-- promise.
pub mod Entries
pub mod Shown
pub mod Changed
pub mod With
pub mod work
