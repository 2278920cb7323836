-- Laws and theorems of heaviest, by topic. Demand 2 stands in Demand2.
pub mod FromBest
pub mod Only
pub mod Demand2
pub mod Holders
