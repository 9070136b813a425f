pub mod Answering
pub mod Asking
pub mod Cutting
pub mod Counting
pub mod Judged
pub mod Knowing
pub mod Sequencing
