mod Answered
pub mod Composed
mod Held
mod Histories
mod Starts
mod Steps
