pub mod IdleSteps
pub mod InsideSets
pub mod Staying
