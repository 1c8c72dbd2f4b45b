pub mod Judging
pub mod Queues
