pub mod One
pub mod Each
pub mod Bind
pub mod Gathered
pub mod Plains
pub mod Utf8
pub mod Accepting
pub mod Tables
