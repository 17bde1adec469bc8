pub mod Turn
pub mod Balanced
pub mod Promise
