pub use Rattle.cf_io.specs as CfIo
pub mod Tells
pub mod Asks
pub mod Links
