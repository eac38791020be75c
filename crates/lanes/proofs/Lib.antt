pub mod LaneFacts
pub mod RingFacts
