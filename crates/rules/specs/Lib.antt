pub mod Announcements
pub mod Entries
pub mod Ledgers
pub mod Rules
pub mod Stages
