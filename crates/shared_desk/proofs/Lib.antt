pub mod Parts
pub mod Closing
pub mod Steps
pub mod AskedOfDesks
pub mod OneAnswer
pub mod HeardAnswer
pub mod WholeStream
pub mod Opening
