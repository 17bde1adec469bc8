pub mod Spread
pub mod Apart
