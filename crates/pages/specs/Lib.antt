-- What a reader must believe of this crate; work holds what its functions promise each other, no part of an operation's
-- promise.
pub mod Bytes
pub mod Listing
pub mod Page
pub mod Paged
pub mod Passes
pub mod work
