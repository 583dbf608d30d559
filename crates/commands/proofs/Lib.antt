pub mod Inside
pub mod Restored
