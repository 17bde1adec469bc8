pub mod Heads
pub mod Moved
