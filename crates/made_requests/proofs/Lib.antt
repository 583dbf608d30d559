pub mod Texts
pub mod Trees
pub mod Reading
pub mod Lines
pub mod Commands
