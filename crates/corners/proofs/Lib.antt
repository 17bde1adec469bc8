pub mod CornerLaws
pub mod ThousandthLaws
