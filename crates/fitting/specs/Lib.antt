pub mod Bringing
pub mod Fitting
