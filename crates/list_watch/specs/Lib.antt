pub mod Monitors
pub mod Rows
pub mod Ends
pub mod WatchView
