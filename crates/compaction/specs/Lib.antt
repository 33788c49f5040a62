pub mod Files
pub mod Snapshots
