pub mod Imports
pub mod CallerSets
pub mod PostLaws
pub mod RemovalLaws
