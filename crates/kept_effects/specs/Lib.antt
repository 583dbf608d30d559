pub use Rattle.cm_plain.specs.Datum
pub use Rattle.change_desc.specs.Sections
pub use Rattle.change_desc.specs.Positions
pub use Rattle.change_desc.specs.Places
pub mod MappedValues
pub mod PrivateEnds
