pub mod FirstLaws
pub mod SubLaws
pub mod QueueLaws
pub mod ActiveLaws
pub mod RenewalLaws
pub mod OrderLaws
pub mod ListLaws
pub mod ItemLaws
pub mod EngineLaws
pub mod TurnLaws
mod Checks
