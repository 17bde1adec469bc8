pub mod Texts
pub mod Floats
pub mod Values
pub mod Rounding
