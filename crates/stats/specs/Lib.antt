pub mod BlockCounts
pub mod Pieces
pub mod Groups
pub mod Rows
pub mod Counting
pub mod Examples
