mod Walks
mod Shortenings
mod ReplacingLemmas
