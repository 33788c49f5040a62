pub mod Helpless
pub mod WordLemmas
mod SourceLemmas
