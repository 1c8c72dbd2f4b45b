-- LCONTROLS: how many records a header has, and its limit.
use Rattle.std.specs.Prelude.{ℕ, length, get_or}
use Rattle.cf_types.specs.declared.list_commands.ListReply.{ListReply}
use Rattle.cf_types.specs.declared.list_commands.ListReply.TheVariants as replies
use Rattle.list_store.specs.Lists.{records_of}
use Rattle.list_model.specs.Contents.{Content}
pub use Rattle.list_model.specs.Commands.ReadList.{causes}

abbrev pub reply : Content → ℕ → ListReply
reply content header =
    replies.Controls (length (records_of content.lists header)) (get_or content.limits header 0)
