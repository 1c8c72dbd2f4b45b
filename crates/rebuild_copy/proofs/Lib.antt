pub mod Imports
pub mod CopyLaws
pub mod DepartureLaws
