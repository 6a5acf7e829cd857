pub mod Spelling
pub mod Parts
