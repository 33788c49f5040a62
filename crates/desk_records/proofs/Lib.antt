pub mod StepLemmas
pub mod DamageLemmas
pub mod MadeLemmas
