pub mod Fits
pub mod Tests
pub mod Judged
pub mod Stands
