pub mod Beginnings
pub mod Seen
pub mod Examples
pub mod Samples
pub mod ListNet
pub mod ListRun
pub mod Faulty
