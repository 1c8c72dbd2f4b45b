pub mod Callers
pub mod Post
