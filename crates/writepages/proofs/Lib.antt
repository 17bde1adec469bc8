pub mod Columns
pub mod Lines
pub mod PageParts
pub mod WholePages
