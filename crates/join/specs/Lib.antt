pub mod Interleave
pub mod Interleaved
pub mod Thirds
pub mod Join
