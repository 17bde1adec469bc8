pub mod Runs
pub mod Bytes
pub mod Whole
pub mod ByBlocks
