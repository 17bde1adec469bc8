pub mod ByPlaces
pub mod Asked
pub mod Questions
