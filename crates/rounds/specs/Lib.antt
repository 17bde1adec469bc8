pub mod Post
pub mod Played
pub mod Requests
pub mod Either
