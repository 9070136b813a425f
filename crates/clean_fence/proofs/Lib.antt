pub mod Pieces
pub mod Holding
pub mod Views
pub mod Crowding
pub mod Fences
pub mod Absent
