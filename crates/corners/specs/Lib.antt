pub mod Corners
pub mod Thousandths
pub mod Examples
