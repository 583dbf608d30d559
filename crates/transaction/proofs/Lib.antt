pub mod Joins
pub mod Meetings
pub mod Pairs
pub mod Steps
pub mod Within
