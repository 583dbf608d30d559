pub use Rattle.cm_plain.specs.Form
pub use Rattle.cm_plain.specs.Shape
pub use Rattle.values.specs.Vals
pub use Rattle.values.specs.Rules
pub mod Read
pub mod Fitting
pub mod Keys
