pub mod Pairing
pub mod Asked
pub mod Steps
