-- What a reader must believe of this crate; work holds what its functions promise each other, no part of an operation's
-- promise.
pub mod Answer
pub mod Mesh
pub mod Table
pub mod work
