pub mod Asking
pub mod AloneLemmas
pub mod Answering
pub mod Places
pub mod OwnTable
pub mod SoloRunning
