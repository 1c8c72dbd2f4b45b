pub mod Castout
pub mod ClassBatch
