pub mod Told
pub mod Orderly
pub mod Named
pub mod Data
pub mod ContentView
