pub mod Calls
pub mod Cuts
pub mod Keeping
pub mod Leading
pub mod Moved
pub mod Returning
pub mod Same
