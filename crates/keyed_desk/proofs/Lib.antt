mod Tags
pub mod PlainChanges
mod KeysBack
mod Applied
