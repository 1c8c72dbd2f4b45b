pub mod Names
pub mod KeyOrder
