pub mod Onwards
pub mod Joining
pub mod Marks
pub mod CodeLemmas
pub mod FaultLemmas
pub mod Decoded
pub mod Lists
pub mod MarkLemmas
pub mod WalkLemmas
pub mod PlaceLemmas
pub mod OrderLemmas
pub mod ForwardLemmas
pub mod OneRefusal
pub mod LandingLemmas
mod NumberLemmas
