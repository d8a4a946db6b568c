pub mod Justified
pub mod Memory
pub mod Texts
