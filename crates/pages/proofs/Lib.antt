-- Laws and theorems by topic. Demand 3 stands in Demand3.
pub mod Demand3
pub mod Order
pub mod Rising
pub mod Listings
pub mod Qualifying
pub mod Pages
pub mod Rows
pub mod Back
pub mod Calls
pub mod Lift
pub mod Filling
pub mod Scan
pub mod Firsts
pub mod Only
