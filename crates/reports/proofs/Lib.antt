pub mod Expected
pub mod Smallest
