pub mod Imports
pub mod RowLaws
pub mod RoomLaws
pub mod ContentLaws
pub mod EngineLaws
pub mod CopyLaws
pub mod OrderLaws
pub mod UncastLaws
