pub mod LetGo
pub mod Asks
