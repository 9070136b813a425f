pub mod Lines
pub mod Pieces
pub mod Kinds
pub mod Tokens
pub mod Scan
pub mod Mnemonics
pub mod Registers
pub mod Widths
