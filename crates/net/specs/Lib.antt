-- What a reader must believe of this crate; work holds what its functions promise each other, no part of an operation's
-- promise.
pub mod Count
pub mod Graph
pub mod Net
pub mod Path
pub mod Ring
pub mod Value
pub mod work
