pub mod Decoding
pub mod Text
pub mod Written
