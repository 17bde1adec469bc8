pub mod Pieces
pub mod FileBytes
pub mod Sizes
pub mod WholeFile
