pub mod OwnLaws
pub mod HeardLaws
pub mod RunLaws
pub mod WorkLaws
pub mod FillLaws
