-- Working statements: what functions promise each other, and no part of an operation's promise.
pub mod Ground
pub mod Paths
pub mod Sweeps
