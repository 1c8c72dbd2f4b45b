pub mod Indexes
pub mod Stored
pub mod StoreView
pub mod Listed
pub mod Tallies
pub mod Counted
pub mod Totals
pub mod RowBatch
