pub mod Words
pub mod Lines
pub mod Commands
pub mod Names
pub mod Viewers
