pub mod Answers
pub mod Asking
pub mod Leaves
pub mod NetAnswers
pub mod Tapes
