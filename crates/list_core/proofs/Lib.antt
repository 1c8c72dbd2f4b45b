pub use Rattle.list_model.proofs as ListModel
pub mod Imports
pub mod FoundLaws
pub mod PlanLaws
pub mod RowLaws
pub mod StandLaws
