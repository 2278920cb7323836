-- Working statements: what functions promise each other, and no part of an operation's promise.
pub mod Calls
pub mod Filling
pub mod Keyed
pub mod Lowered
pub mod Pages
pub mod RowFits
