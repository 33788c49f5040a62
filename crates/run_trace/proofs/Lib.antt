pub mod SameEffect
pub mod Placing
pub mod Following
pub mod ChangeLemmas
pub mod SameTrace
pub mod Running
pub mod JobLemmas
mod Growing
