pub mod Figures
pub mod Counts
pub mod Viewers
