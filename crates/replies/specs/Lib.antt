pub mod Objects
pub mod Scalars
pub mod Refusals
pub mod Shown
pub mod Screens
pub mod Replies
