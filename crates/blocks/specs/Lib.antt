pub mod Hiding
pub mod Joins
pub mod Points
