pub mod Plain
pub mod ReadBack
pub mod Taking
