pub mod Sums
pub mod Chosen
pub mod Shapes
pub mod Picked
pub mod Lowers
pub mod MovesEnd
pub mod Levels
