pub mod Outside
pub mod Lists
