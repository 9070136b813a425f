pub mod Codes
pub mod Loading
pub mod ObjectFile
pub mod Sections
