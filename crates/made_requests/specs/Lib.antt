pub mod PrivateRequests
