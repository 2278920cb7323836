-- Working statements: what functions promise each other, and no part of an operation's promise.
pub mod Diff
pub mod Lift
pub mod RowTold
pub mod Standing
