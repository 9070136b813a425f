pub mod Arithmetic
pub mod Effect
pub mod HartLines
pub mod InPlace
pub mod Memory
pub mod Needs
pub mod Registers
pub mod Requests
