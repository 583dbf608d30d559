pub mod Colors
pub mod Widgets
pub mod Marks
pub mod LineStyles
pub mod MarkNumbers
pub mod Replacements
pub mod Sides
pub mod Places
