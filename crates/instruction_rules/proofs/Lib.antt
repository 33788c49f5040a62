pub mod StateLemmas
pub mod ArgumentLemmas
