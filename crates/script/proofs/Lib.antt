pub mod LineFacts
pub mod PlayFacts
pub mod Promised
pub mod ReadFacts
