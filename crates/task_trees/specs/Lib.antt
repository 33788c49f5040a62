pub mod Solo
pub mod Eval
pub mod Answer
pub mod Families
