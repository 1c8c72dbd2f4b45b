pub mod Imports
pub mod RegLaws
pub mod BitLaws
mod MapLaws
mod AgreeLaws
mod EndLaws
mod ListedLaws
mod KeptLaws
