pub mod Tables
pub mod Layout
pub mod RowStores
pub mod Loading
pub mod Found
pub mod KindsOfFiles
