pub mod Draws
pub mod Edits
pub mod MadeLines
pub mod Examples
