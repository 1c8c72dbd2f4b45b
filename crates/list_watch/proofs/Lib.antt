pub mod Imports
pub mod BitLaws
pub mod MonitorLaws
