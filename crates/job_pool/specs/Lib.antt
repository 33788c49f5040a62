pub mod FairTurns
pub mod PooledJobs
pub mod PoolSteps
pub mod SeatSteps
pub mod Holdings
pub mod PoolRuns
pub mod HeldLemmas
