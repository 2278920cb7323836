-- Working statements: what functions promise each other, and no part of an operation's promise.
pub mod Bits
pub mod Foreign
pub mod Lacks
pub mod Lines
pub mod Meant
pub mod Repeats
pub mod Screened
