pub mod Clerks
pub mod Conversations
pub mod Endings
pub mod Handed
pub mod Hearing
pub mod Hosting
pub mod Objects
pub mod Writable
