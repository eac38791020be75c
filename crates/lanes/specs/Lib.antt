pub mod LaneLaws
pub mod Lanes
pub mod Rings
