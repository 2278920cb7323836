-- What a reader must believe of this crate; work holds what its functions promise each other, no part of an operation's
-- promise.
pub mod Bound
pub mod Bytes
pub mod Examine
pub mod Header
pub mod Opens
pub mod Reader
pub mod Refuse
pub mod Row
pub mod Scores
pub mod Signed
pub mod work
