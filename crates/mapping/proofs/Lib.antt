pub mod Accepted
pub mod SetLengths
pub mod Filtering
pub mod Made
