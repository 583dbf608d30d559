pub mod SelectionOrder
pub mod Normals
pub mod Moves
pub mod CreatedAgain
pub mod Alone
pub mod Covered
pub mod Apart
