mod Digits
pub mod Parting
mod Entries
mod OneReading
mod Proper
mod Upwards
mod ImageNameWords
mod Written
