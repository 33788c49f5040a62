pub mod FileLogs
pub mod FilePairs
pub mod Shortening
