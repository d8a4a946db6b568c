pub mod Tables
pub mod Kinds
pub mod Net
pub mod Written
pub mod Rules
pub mod Reading
pub mod Faults
