pub mod Clusters
pub mod ColumnSteps
pub mod Groups
pub mod Parts
pub mod PlaceSteps
pub mod RunSteps
pub mod SameRows
pub mod Windows
