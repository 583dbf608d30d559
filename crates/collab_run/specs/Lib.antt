pub mod Refused
pub mod Commands
pub mod Playing
pub mod Transcript
pub mod Tables
