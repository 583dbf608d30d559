pub mod CircleExamples
pub mod Circling
pub mod Keeping
pub mod ResolutionExamples
pub mod Resolving
pub mod Rounds
pub mod SameTrees
