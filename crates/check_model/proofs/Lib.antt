pub mod BadBlocks
pub mod BadItems
pub mod Answers
pub mod ItemLaws
