pub mod Histories
pub mod Crashes
pub mod Writers
pub mod Journals
pub mod Openings
