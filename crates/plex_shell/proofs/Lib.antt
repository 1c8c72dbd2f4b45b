pub mod Imports
pub mod CallerSets
