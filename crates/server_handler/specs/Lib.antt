pub mod Recording
pub mod DeskAnswers
pub mod Serving
pub mod Naming
pub mod Shared
