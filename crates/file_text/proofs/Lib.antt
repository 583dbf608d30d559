pub mod Utf8
pub mod SavedPieces
pub mod Lengths
pub mod RoundTrip
