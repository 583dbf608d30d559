pub mod Keys
pub mod Running
pub mod Whole
