pub use Rattle.list_model.specs as ListModel
pub use Rattle.list_model.specs.ListStore as ListStore
pub mod Found
pub mod Plans
pub mod EngineView
pub mod Rows
