pub mod Arrays
pub mod TakenImage
pub mod Answered
pub mod Served
