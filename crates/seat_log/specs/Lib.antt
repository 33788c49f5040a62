pub mod LogParts
pub mod LogRule
pub mod Seated
