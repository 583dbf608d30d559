pub mod Words
pub mod PrivateCommand
