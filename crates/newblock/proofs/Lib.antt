pub mod Rows
pub mod Stored
pub mod Resolving
pub mod Imaged
pub mod Ranged
pub mod Unheld
pub mod Answered
