pub mod WordLaws
pub mod TestLaws
pub mod FirstLaws
pub mod ToldLaws
pub mod RiseLaws
pub mod QueueLaws
