pub mod Plan
pub mod Commit
pub mod Looks
pub mod Prepare
pub mod Folder
