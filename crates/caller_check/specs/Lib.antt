pub use Rattle.check_model.specs as CheckModel
pub mod Tables
pub mod Untold
pub mod First
