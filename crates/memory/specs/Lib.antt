pub mod Header
pub mod Record
pub mod Lookup
pub mod Point
