pub mod Window
pub mod Reveal
