pub mod Imports
pub mod JoinLaws
pub mod ReadLaws
pub mod CountLaws
pub mod OwnerLaws
