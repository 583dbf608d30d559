pub mod Stops
pub mod Moves
