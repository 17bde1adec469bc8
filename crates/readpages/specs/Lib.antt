pub mod Thirds
pub mod Rows
pub mod Raw
pub mod Counters
