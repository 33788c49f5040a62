pub mod Rules
pub mod Faults
pub mod Keeping
pub mod Sharing
