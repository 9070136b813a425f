pub mod Represents
pub mod Rules
