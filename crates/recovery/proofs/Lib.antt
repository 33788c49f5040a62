pub mod CrashLemmas
pub mod HistoryLemmas
mod OpeningLemmas
