pub mod EachPlace
pub mod Forgotten
mod AnsweredAt
mod Handled
mod Restarted
pub mod Recovered
mod Credited
mod KeyedAt
mod KeysRecorded
pub mod RecordedNames
