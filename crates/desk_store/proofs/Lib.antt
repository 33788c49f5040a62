pub mod SoundLemmas
pub mod StoreSteps
pub mod LoadLemmas
pub mod OverLemmas
pub mod FoundLemmas
