pub mod Asked
pub mod AskedAgain
pub mod Mixed
