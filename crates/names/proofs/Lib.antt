pub mod Each
pub mod Prefixes
pub mod Settling
pub mod Entries
pub mod Naming
pub mod Keeping
pub mod Starting
