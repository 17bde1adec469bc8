pub mod ThirdTexts
pub mod RowTexts
pub mod PageTexts
pub mod Filling
pub mod RawPages
pub mod Counting
pub mod Answered
