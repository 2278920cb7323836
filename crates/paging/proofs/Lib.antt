-- Laws and theorems of every operation that lists, by topic. Demand 3 stands in Demand3.
pub mod Only
pub mod Alike
pub mod Few
pub mod Demand3
