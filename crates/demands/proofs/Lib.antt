-- The demands over byte areas, and the bridge to them from what is proved of stores.
pub mod RangeKept
pub mod Bridge
pub mod History
pub mod Refusals
pub mod Demand1
pub mod Mistakes
pub mod Demand2
pub mod Demand3a
pub mod Demand3b
pub mod Reached
