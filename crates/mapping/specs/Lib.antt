pub mod Changes
pub mod Mapping
