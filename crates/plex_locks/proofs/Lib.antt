pub mod Imports
pub mod WorkLaws
pub mod ToldLaws
