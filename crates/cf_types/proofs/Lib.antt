pub mod Imports
pub mod TermFaults
pub mod GainsLaws
pub mod ConnSetLaws
pub mod ConnectionLaws
pub mod ResourceLaws
