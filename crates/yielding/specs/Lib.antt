pub mod Leading
pub mod Standing
pub mod Stops
pub mod Pieces
pub mod GoFaults
pub mod Going
pub mod Answering
pub mod Asking
