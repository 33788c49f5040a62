pub mod History
pub mod Quiet
pub mod Rule
pub mod Boards
pub mod Books
pub mod Tasks
pub mod Buffers
pub mod BookFaultCodes
