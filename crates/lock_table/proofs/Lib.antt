pub mod Imports
pub mod HoldingLaws
pub mod MaskLaws
pub mod EntryLaws
pub mod CountLaws
