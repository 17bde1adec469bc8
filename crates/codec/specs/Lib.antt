pub mod Darts
pub mod Entries
pub mod Points
pub mod Taken
pub mod Thirds
