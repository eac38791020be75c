pub mod Every
pub mod Search
