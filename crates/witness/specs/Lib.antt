pub mod Explains
pub mod Least
pub mod LineState
pub mod Needed
pub mod Walking
