pub mod LeafRows
pub mod LinesRead
pub mod Words
pub mod Zipped
mod Digits
