-- Laws and theorems, from the ground up.
pub mod Below
pub mod Leaves
pub mod Main
pub mod Head
pub mod Backward
pub mod LeafSweep
pub mod SizeSweep
pub mod MainSweep
pub mod HeadSweep
pub mod FloorLog
pub mod Rising
pub mod Same
pub mod Net
pub mod HopsBound
pub mod HeadsOnly
pub mod HopsCounted
pub mod Theorems
