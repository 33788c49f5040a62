pub mod ListeningLemmas
pub mod LimitLemmas
