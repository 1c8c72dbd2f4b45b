pub mod Imports
pub mod LogLaws
pub mod WorldLaws
pub mod LoadLaws
