pub mod NoFloats
pub mod LengthLine
pub mod ShownItems
