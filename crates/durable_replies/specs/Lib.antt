pub mod Durable
pub mod LetGo
pub mod Told
