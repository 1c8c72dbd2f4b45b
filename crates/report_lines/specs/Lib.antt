pub mod Spaced
pub mod Readable
pub mod Items
pub mod Parts
pub mod Headings
pub mod Entries
pub mod Kinds
pub mod Picked
