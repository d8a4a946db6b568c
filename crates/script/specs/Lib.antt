pub mod Contents
pub mod Rows
pub mod Taking
