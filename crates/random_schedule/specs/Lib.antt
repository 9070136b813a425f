pub mod Codes
pub mod Drawing
pub mod Evictions
pub mod Interleaves
pub mod Making
pub mod SplitMix
pub mod Weaving
