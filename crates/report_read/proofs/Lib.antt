mod LineLaws
mod ManyLaws
mod EntryLaws
mod HistoryLaws
pub mod OneLaws
mod PolicyLaws
mod TranscriptLaws
mod WholeLaws
