pub mod SnapshotLemmas
mod OpenedLemmas
mod StandingLemmas
