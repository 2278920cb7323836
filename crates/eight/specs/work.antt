-- Working statements: what functions promise each other, and no part of an operation's promise.
pub mod Room
