pub mod Words
pub mod RowLaws
pub mod SingleLaws
