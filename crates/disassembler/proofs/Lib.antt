pub mod Cuts
pub mod Words
pub mod Texts
pub mod OneLine
