-- Working statements: what functions promise each other and crates above, and no part of an operation's promise.
pub mod Chunk
pub mod Look
pub mod Lay
