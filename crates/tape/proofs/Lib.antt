pub mod ByteFacts
pub mod TapeFacts
