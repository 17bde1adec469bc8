pub mod Arrays
pub mod Points
pub mod FaceArrays
pub mod Passing
pub mod Outlining
pub mod Arriving
