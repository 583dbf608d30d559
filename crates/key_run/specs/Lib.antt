pub mod Typing
pub mod Run
pub mod Pressing
