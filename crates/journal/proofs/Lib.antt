pub mod RecordLemmas
pub mod JoinedRecords
mod ChecksumLemmas
mod TailLemmas
