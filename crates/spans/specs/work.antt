-- Working statements: what functions promise each other, and no part of an operation's promise.
pub mod Choose
pub mod Pairs
pub mod Partners
pub mod Spans
