pub mod Tapes
pub mod Streams
pub mod Lawful
pub mod Looked
pub mod Filtering
