pub mod Registrations
pub mod Maps
pub mod Registry
pub mod Ends
pub mod Places
