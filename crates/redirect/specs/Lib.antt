pub mod ByPlaces
pub mod Told
