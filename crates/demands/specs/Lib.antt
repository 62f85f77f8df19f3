-- The definitions that the demands' statements have of their own.
pub mod History
pub mod RefusalTables
pub mod SameLock
pub mod LastLock
pub mod NeedSamples
pub mod Reached
