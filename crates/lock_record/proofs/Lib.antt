pub mod Imports
pub mod PartLaws
pub mod RecordLaws
pub mod MapLaws
pub mod WalkLaws
