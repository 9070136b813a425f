pub mod AllAnswers
pub mod EverySchedule
pub mod Following
pub mod KeptRuns
pub mod KnownAnswers
pub mod Sequential
pub mod Showing
