pub mod EachMore
pub mod LastLine
pub mod Listed
pub mod NeededRoom
pub mod Tables
pub mod TapeVerdict
pub mod Written
