mod Among
mod Grants
mod Made
pub mod OwnLemmas
mod Recorded
mod Replied
mod Settled
mod Shared
mod Starts
mod Waiting
