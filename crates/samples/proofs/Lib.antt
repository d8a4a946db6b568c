pub mod Onward
pub mod PassNet
pub mod Each
pub mod PassKept
pub mod PassRecursion
pub mod PassAccepted
