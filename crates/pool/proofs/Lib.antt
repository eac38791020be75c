pub mod PoolFacts
pub mod SentFacts
