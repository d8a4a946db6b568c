pub mod Directives
pub mod Numbers
pub mod Questions
pub mod TokenRows
pub mod Words
