pub mod Counting
pub mod LogLines
pub mod Told
