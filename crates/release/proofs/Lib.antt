pub mod PutLinks
pub mod NewLinks
pub mod Ranks
pub mod CutFaces
pub mod ReleasedImage
pub mod Labelling
pub mod Removing
pub mod LettingGo
