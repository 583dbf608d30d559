pub mod Screen
pub mod Head
pub mod Reveal
