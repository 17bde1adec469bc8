pub mod Scans
pub mod Fields
pub mod NameLaws
pub mod Viewing
