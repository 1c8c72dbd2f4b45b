pub mod Lines
pub mod Reads
pub mod Picked
pub mod Histories
pub mod Transcripts
pub mod Wholes
