-- Working statements: what functions promise each other, and no part of an operation's promise.
pub mod Forest
pub mod Net
pub mod Rise
pub mod Rooted
pub mod Rows
pub mod Simple
