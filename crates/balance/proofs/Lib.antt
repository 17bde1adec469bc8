pub mod Strikes
pub mod Searches
pub mod MovesLaws
pub mod SurplusLaws
pub mod Door
pub mod Turns
