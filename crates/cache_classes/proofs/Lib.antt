pub mod Imports
pub mod NameOrder
pub mod MapLaws
pub mod WalkLaws
pub mod LastLaws
