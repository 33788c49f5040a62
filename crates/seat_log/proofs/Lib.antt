pub mod LogLists
pub mod LogSteps
