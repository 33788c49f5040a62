pub mod Keeping
pub mod JobSteps
pub mod Pooled
pub mod TurnSteps
pub mod TurnOrder
pub mod TurnParts
pub mod TurnSeats
pub mod HeldByLine
