pub mod Counts
pub mod Writing
pub mod Reading
pub mod Coordinates
pub mod Ends
pub mod Labels
