pub mod Rising
pub mod Merged
pub mod Without
pub mod Counted
pub mod Canonical
