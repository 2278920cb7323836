-- Laws and theorems of the listing, by topic. Demand 3 stands in Demand3.
pub mod Scanning
pub mod Only
pub mod Few
pub mod Demand3
pub mod Holders
