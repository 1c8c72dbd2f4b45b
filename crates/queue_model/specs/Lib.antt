pub mod FirstItems
pub mod Queues
pub mod Meaning
pub mod Renewals
pub mod Orders
pub mod ListQueues
pub mod Turns
