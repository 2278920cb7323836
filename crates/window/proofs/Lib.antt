-- Laws and theorems of window and window_list, by topic. What holds of them stands in Theorems, demand 3 in Demand3.
pub mod Bettering
pub mod Counting
pub mod Demand3
pub mod FromBest
pub mod Holders
pub mod Only
pub mod Scanning
pub mod Theorems
