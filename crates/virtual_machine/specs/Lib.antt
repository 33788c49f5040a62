pub mod Functions
pub mod VmFaultCodes
pub mod Executes
pub mod Holding
pub mod Registering
pub mod Fresh
pub mod Through
