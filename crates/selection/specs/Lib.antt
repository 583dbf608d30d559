pub use Rattle.stable_order.specs.StableSort
pub mod Ranges
pub mod Selections
pub use Rattle.change_desc.specs.Sections
pub use Rattle.change_desc.specs.Positions
pub use Rattle.change_desc.specs.Places
