pub use Rattle.no_memory.specs as NoMemory
pub mod Term
pub mod Batch
pub mod ConnSets
pub mod MemberLaws
pub mod Connections
pub mod Mailboxes
pub mod Forms
pub mod Gains
pub mod Name
pub mod Stored
pub mod Filled
pub mod AdjunctBytes
pub mod Resources
