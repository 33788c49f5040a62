pub mod Telling
pub mod Operands
pub mod Access
pub mod Representation
pub mod Stretch
pub mod Children
pub mod StepEffectForAll
pub mod Refusals
