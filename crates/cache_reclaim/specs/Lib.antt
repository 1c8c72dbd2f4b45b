pub mod LastUse
pub mod Slots
pub mod OrderBatch
