pub mod Seats
pub mod Events
pub mod Answers
pub mod Commands
pub mod Faults
pub mod Outcomes
pub mod Names
