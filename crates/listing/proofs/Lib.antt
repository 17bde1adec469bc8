pub mod Digits
pub mod Copies
pub mod LineTexts
pub mod Listed
