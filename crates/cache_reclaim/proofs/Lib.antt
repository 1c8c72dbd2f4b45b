pub mod Imports
pub mod LastUseLaws
pub mod MapLaws
pub mod SlotLaws
pub mod PlaceLaws
