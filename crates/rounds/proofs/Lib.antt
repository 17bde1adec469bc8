pub mod Cuts
pub mod Placed
pub mod Stepping
pub mod Running
pub mod Delivering
pub mod Requests
