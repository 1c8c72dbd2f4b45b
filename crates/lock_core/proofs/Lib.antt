pub use Rattle.lock_model.proofs as LockModel
pub mod Imports
pub mod ReadLaws
pub mod GrantLaws
pub mod LetterLaws
pub mod OnceLaws
pub mod AwaitedLaws
pub mod EngineLaws
