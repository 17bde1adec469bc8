pub mod Numbers
pub mod Keys
pub mod Told
