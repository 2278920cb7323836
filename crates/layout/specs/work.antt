-- Working statements: what functions promise each other, and no part of an operation's promise.
pub mod BestPair
pub mod Laid
pub mod Seats
pub mod Spotted
