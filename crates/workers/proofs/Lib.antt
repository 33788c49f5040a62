pub mod Endings
pub mod Runs
pub mod RegisterSteps
pub mod SeatLemmas
pub mod AloneLemmas
pub mod NoRefusals
pub mod HeardLemmas
pub mod RefusalLemmas
