pub mod RankLaws
pub mod Steps
pub mod Halves
pub mod Found
