pub mod Recorded
pub mod Book
