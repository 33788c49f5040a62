pub mod Standing
pub mod JournalHistories
pub mod Followers
pub mod JournalRule
pub mod Commits
pub mod Places
