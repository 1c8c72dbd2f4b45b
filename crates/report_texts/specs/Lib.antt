pub use Rattle.check_model.specs as CheckModel
pub use Rattle.plex_report.specs as PlexReport
pub use Rattle.reply_rows.specs as ReplyRows
pub use Rattle.report_lines.specs as ReportLines
pub mod Readable
pub mod Texts
