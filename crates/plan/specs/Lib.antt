pub mod Codes
pub mod Drafts
pub mod Entries
pub mod Grammar
pub mod Lines
pub mod Plans
pub mod Worded
