pub mod Chains
pub mod Counts
pub mod Pairs
pub mod Scopes
