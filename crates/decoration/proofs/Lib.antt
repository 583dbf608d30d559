pub mod LineStarts
pub mod Colors
pub mod Marks
