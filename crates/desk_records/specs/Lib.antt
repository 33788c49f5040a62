pub mod Columns
pub mod Records
pub mod RecordLemmas
pub mod Changes
pub mod Stored
pub mod Made
