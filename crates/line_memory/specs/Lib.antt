pub mod Lines
pub mod Memory
pub mod Places
pub mod Regions
