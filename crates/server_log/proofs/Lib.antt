pub mod ToldCounts
pub mod WholeLines
