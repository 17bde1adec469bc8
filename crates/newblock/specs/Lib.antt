pub mod Serials
pub mod Places
pub mod Checks
