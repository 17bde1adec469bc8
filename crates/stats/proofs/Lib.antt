pub mod CriticalFaces
pub mod Orbits
pub mod GroupLaws
pub mod Numbering
pub mod CountLaws
pub mod RowLaws
