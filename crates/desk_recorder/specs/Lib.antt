pub mod Histories
pub mod Recording
pub mod RecordedAnswers
pub mod Restarts
