pub mod Found
pub mod Brought
pub mod MetFaces
pub mod Transfers
pub mod LabelLaws
pub mod Outlined
pub mod Fitted
