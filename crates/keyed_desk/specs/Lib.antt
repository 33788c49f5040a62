pub mod KeyedChanges
pub mod KeyedLemmas
pub mod KeyedSnapshots
pub mod KeyedSteps
