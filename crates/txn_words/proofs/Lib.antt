pub mod Maps
pub mod Order
pub mod OrderedPairs
pub mod Levels
pub mod Packing
pub mod Effects
pub mod Holding
