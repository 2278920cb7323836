-- Laws of the table, by topic. Crates above cite Refusals, Accepted, Only, Bound, Order, Lift, Near and nothing else of
-- this crate (the gate's program of cases also Bits).
pub mod Accepted
pub mod Bits
pub mod Bound
pub mod Lift
pub mod Near
pub mod Only
pub mod Order
pub mod Range
pub mod Refusals
pub mod Short
pub mod Weights
