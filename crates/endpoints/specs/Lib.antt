pub mod Modes
pub mod Turns
pub mod Listening
pub mod Accepting
pub mod Addresses
pub mod Limits
pub mod Stopping
pub mod Places
