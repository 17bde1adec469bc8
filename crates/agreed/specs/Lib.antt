pub mod Course
pub mod Promise
