pub mod Reports
pub mod Heard
