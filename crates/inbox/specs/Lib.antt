pub mod Inbox
pub mod Parts
pub mod Outlines
pub mod Arrived
