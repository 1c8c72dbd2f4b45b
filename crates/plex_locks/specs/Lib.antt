pub mod Requests
pub mod Outcomes
pub mod Work
pub mod Told
pub mod Others
