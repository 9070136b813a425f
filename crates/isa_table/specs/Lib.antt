pub mod Columns
pub mod Operands
pub mod Ranges
pub mod Table
pub mod Names
