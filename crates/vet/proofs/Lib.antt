-- Laws and theorems of vetting a list, by topic. What a yes means stands in Theorems.
pub mod Only
pub mod Holders
pub mod Theorems
pub mod Verdicts
