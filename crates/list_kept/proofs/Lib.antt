pub use Rattle.list_store.proofs as ListStore
pub mod Imports
pub mod ToldLaws
pub mod ReadLaws
pub mod LastLaws
pub mod PlaceLaws
pub mod KeyedLaws
pub mod SublistLaws
pub mod NamedLaws
pub mod DataLaws
