pub use Rattle.report_texts.specs as ReportTexts
pub mod Grammars
pub mod Cuts
pub mod Slots
pub mod Fronts
pub mod Steps
