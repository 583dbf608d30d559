pub mod Choosing
pub mod Done
pub mod Enough
pub mod Known
pub mod Lists
pub mod Marking
pub mod Skip
pub mod UnderWay
