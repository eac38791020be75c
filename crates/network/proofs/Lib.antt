pub mod ForwardFacts
pub mod LinkFacts
