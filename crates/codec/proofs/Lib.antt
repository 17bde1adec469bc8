pub mod DartLaws
pub mod DartReads
pub mod EntryLaws
pub mod Passing
pub mod PointReads
pub mod Taking
pub mod ThirdLaws
pub mod ThirdReads
