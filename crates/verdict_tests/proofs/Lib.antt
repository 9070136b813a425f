pub mod Mixing
mod LoadedLines
