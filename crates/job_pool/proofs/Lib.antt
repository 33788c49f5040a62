pub mod FairSteps
pub mod FairOrder
pub mod PoolParts
pub mod SeatParts
pub mod Desks
pub mod Limits
pub mod Histories
