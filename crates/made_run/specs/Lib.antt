pub mod Run
pub mod Replying
