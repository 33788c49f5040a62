pub mod ChangeData
pub mod KeyedData
pub mod ChangeLines
pub mod JournalEnds
