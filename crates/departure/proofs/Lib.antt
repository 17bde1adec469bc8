pub mod Answers
pub mod FirstNo
pub mod LeavingFaces
pub mod LeavesWith
pub mod Told
