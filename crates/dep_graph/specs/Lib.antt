pub mod Counting
pub mod ErrorMembers
pub mod Laws
pub mod Order
pub mod Visiting
pub use Rattle.id_lists.specs.Members
