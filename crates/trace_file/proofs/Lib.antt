mod ActLemmas
pub mod CutLemmas
mod Drafting
mod FileLemmas
mod JudgedLemmas
mod Keeping
mod LineLemmas
mod LineSets
pub mod NumeralLemmas
mod OneFault
mod OneReading
mod PlaceLemmas
pub mod Printing
mod Ranking
mod Renaming
mod Spacing
mod Writing
