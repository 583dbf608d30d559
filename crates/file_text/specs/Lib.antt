pub use Rattle.line_tree.specs.Text
pub use Rattle.line_tree.specs.Lines
pub mod Files
pub mod Opening
