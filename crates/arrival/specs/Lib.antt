pub mod Sides
pub mod Draft
