pub mod Keys
pub mod Modes
pub mod Table
pub mod Typed
