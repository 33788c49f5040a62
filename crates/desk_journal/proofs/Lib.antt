mod DeskLemmas
mod HeldLemmas
mod ListLemmas
pub mod OpenLemmas
mod SnapshotLead
mod ProgramAlike
mod SameChanges
mod SnapshotOnly
mod SnapshotAccounts
pub mod Added
