pub mod Records
pub mod Evaluating
