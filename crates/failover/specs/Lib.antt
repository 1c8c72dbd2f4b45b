pub mod Failing
pub mod Members
pub mod Outcome
