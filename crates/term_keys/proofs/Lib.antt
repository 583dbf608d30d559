pub mod KeyTable
pub mod Spelling
pub mod Characters
