pub mod Commits
pub mod LettingGo
pub mod Told
