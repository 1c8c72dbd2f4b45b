pub mod SeatLaws
pub mod OutcomeLaws
