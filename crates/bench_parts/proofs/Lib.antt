pub mod Imports
pub mod LastLaws
pub mod SeatLaws
pub mod Granted
