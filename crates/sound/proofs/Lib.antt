pub mod OneDart
pub mod Passes
pub mod Whole
