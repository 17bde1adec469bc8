pub mod Rooms
pub mod Turns
pub mod Carried
pub mod Moving
pub mod EndsWell
pub mod Promised
