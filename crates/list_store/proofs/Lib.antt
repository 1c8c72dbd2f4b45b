pub mod Imports
pub mod VecLaws
pub mod TiedLaws
pub mod SpotLaws
pub mod HeldLaws
pub mod StoreLaws
