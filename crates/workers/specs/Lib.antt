pub mod Counts
pub mod Desks
pub mod Rule
pub mod Sweeps
pub mod Works
pub mod StopWordRule
pub mod Stops
