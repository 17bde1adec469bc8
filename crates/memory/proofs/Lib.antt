pub mod Records
pub mod Headers
pub mod Lookups
pub mod Points
