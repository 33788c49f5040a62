pub mod LeadLemmas
pub mod AskLemmas
pub mod OwnCalls
pub mod StepLemmas
pub mod PieceLemmas
pub mod RunLemmas
