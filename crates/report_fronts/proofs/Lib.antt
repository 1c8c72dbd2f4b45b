pub mod GrammarLaws
pub mod CutLaws
pub mod SlotLaws
pub mod ReportLaws
pub mod TextLaws
pub mod StepLaws
pub mod FreeLaws
pub mod EntryLaws
