-- Laws of this crate, by topic.
pub mod Heads
pub mod Seating
pub mod Full
pub mod Spots
pub mod Laying
pub mod Numbers
pub mod Meeting
pub mod Between
pub mod Spotting
pub mod Chosen
pub mod Choosing
pub mod Weighing
pub mod Only
