pub mod Through
pub mod Keeps
