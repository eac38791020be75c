pub mod Pool
pub mod Sent
pub mod SentLaws
pub mod SentOwner
