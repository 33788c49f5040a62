pub mod TableLemmas
pub mod PieceLemmas
