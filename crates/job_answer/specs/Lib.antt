pub mod SpawnTree
pub mod Gathered
pub mod Children
pub mod Agreement
pub mod Closing
pub mod OneAnswer
