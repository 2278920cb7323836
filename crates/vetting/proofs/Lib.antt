-- The laws of this crate, by topic. What a yes means stands in Theorems.
pub mod Alike
pub mod Belonging
pub mod BitLaws
pub mod Foreigners
pub mod Lacking
pub mod LineLaws
pub mod Meaning
pub mod Only
pub mod Pieces
pub mod Repeating
pub mod RowLaws
pub mod RowsAt
pub mod Screening
pub mod Shuffles
pub mod Standing
pub mod Theorems
