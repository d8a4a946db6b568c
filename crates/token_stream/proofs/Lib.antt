pub mod Taping
pub mod Looking
pub mod Shown
