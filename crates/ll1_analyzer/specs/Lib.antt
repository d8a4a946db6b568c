pub mod Sets
pub mod Chains
pub mod Answers
pub mod Kept
pub mod Listing
