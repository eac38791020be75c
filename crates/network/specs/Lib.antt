pub mod Forward
pub mod Links
pub mod Messages
pub mod Refusals
