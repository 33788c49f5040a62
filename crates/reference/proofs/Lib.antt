pub mod EffectLemmas
pub mod RunLemmas
pub mod AloneLemmas
pub mod Evaluations
pub mod Spending
pub mod FarEvaluations
