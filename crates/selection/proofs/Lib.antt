pub mod Symmetric
pub mod Adding
pub mod Measuring
pub mod PickedPlaces
pub mod Loops
