-- UNMONITOR: the caller's monitor of a header ends, if there is one.
use Rattle.std.specs.Prelude.{ℕ, length, filter}
use Rattle.cf_types.specs.declared.list_commands.ListReply.{ListReply}
use Rattle.cf_types.specs.declared.list_commands.ListReply.TheVariants as replies
use Rattle.cf_types.specs.declared.numbers.ConnId.{ConnId}
use Rattle.list_watch.specs.Monitors.{is_for, monitors_without}
use Rattle.list_model.specs.Contents.{Content}
pub use Rattle.list_model.specs.Commands.ReadList.{causes}

abbrev pub reply : Content → ConnId → ℕ → ListReply
reply content by header = replies.OkCount (length (filter (is_for by header) content.monitors))

abbrev pub after : Content → ConnId → ℕ → Content
after content by header = record content { monitors = monitors_without by header content.monitors }
