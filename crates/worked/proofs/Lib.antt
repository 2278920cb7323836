-- The claim stands in Worked. The others: tests that compute, each with the law that says what it shows.
pub mod Worked
pub mod Tests
pub mod Accepted
pub mod Ways
pub mod Ringed
pub mod Entries
pub mod Pairs
pub mod Best
pub mod Page
pub mod Claimed
pub mod Hung
pub mod Headed
pub mod Measured
