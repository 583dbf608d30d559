pub mod Made
pub mod Sharing
