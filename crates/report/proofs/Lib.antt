mod Lines
pub mod Addresses
mod Parts
mod Stored
mod LossesLines
mod Counting
mod Listing
mod Telling
mod MediumLines
mod TextWords
mod SourceLines
mod DisassemblyListing
mod EntryLines
mod Noting
pub mod TracePlaces
pub mod PrintedNames
