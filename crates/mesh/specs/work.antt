-- Working statements: what functions promise each other, and no part of an operation's promise.
pub mod Bands
pub mod Head
pub mod Hung
pub mod Repeat
pub mod Roots
pub mod Rows
pub mod Sweep
