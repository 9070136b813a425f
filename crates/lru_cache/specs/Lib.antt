pub mod Order
pub mod Cache
pub mod Split
pub mod SlotMap
pub mod InSlots
