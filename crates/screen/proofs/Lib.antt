pub mod Changes
pub mod Counting
pub mod Heads
pub mod Kept
