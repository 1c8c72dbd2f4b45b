pub mod Seats
pub mod CacheForms
pub mod Rounds
