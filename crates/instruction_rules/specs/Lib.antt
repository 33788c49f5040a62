pub mod Covers
pub mod Rules
pub mod States
pub mod Joining
pub mod Judged
