pub mod Tokens
pub mod Kinds
