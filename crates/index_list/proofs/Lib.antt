pub mod Members
pub mod Steps
pub mod Changes
pub mod Rings
