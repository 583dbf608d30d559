pub mod Words
pub mod Styles
pub mod Written
pub mod Declarations
pub mod Effects
pub mod Requests
pub mod Tables
