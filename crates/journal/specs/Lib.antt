pub mod Checksums
pub mod Records
pub mod Tails
pub mod Logs
pub mod Memory
