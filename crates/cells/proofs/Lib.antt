pub mod Layouts
pub mod Printable
pub mod Widths
