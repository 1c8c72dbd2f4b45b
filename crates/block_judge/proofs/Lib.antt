pub mod SteadyLaws
pub mod Cases
