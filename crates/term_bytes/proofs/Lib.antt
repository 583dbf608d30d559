pub mod Codes
pub mod FrameText
pub mod Laid
pub mod ReadBack
pub mod StyleReading
