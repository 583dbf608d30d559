pub mod Lines
pub mod Stepping
pub mod Walking
pub mod Finding
pub mod Merging
pub mod Covered
pub mod Apart
pub mod Plain
