-- Working statements: what functions promise each other, and no part of an operation's promise.
pub mod Items
pub mod Lift
pub mod Listed
pub mod Parts
pub mod Searched
