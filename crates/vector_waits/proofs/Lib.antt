pub mod Parts
pub mod Waiting
pub mod Settled
pub mod Words
