pub mod Pairing
pub mod Placing
pub mod Resolving
