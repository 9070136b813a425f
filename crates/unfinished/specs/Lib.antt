pub mod Causes
pub mod Whole
