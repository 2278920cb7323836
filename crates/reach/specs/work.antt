-- Working statements: what functions promise each other, and no part of an operation's promise.
pub mod Chains
pub mod Grown
pub mod Half
pub mod Placing
pub mod Queue
pub mod Walked
