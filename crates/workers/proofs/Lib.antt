pub mod Closing
pub mod Lists
pub mod Seating
pub mod Steps
pub mod Sweeping
pub mod StopWordClosing
pub mod StopWordSteps
pub mod Totals
