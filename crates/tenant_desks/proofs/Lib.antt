pub mod PlacedLemmas
pub mod AmongLemmas
pub mod ChangedDesks
mod SentEntries
mod StartedTo
mod AloneLemmas
pub mod SeenLemmas
mod AlikeDesks
mod AlikeReplies
mod AdmissionLemmas
mod AlikeEvents
mod FirstDesks
pub mod NamedHistories
pub mod OwnLemmas
pub mod ListedDesks
pub mod DoorLemmas
pub mod KeyedDoors
