-- Laws of change sets, by topic.
pub mod AllRows
pub mod Bits
pub mod Changed
pub mod Forming
pub mod Order
pub mod Overlay
pub mod Parts
pub mod Showing
pub mod Withs
