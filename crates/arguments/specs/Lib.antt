pub mod Cuts
pub mod Grammar
pub mod Line
pub mod Spans
pub mod Started
pub mod Values
pub mod Codes
