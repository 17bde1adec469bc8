pub mod SentLaws
