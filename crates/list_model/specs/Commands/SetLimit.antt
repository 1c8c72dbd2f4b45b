-- SETLIMIT: a header's limit, also below its count.
use Rattle.std.specs.Prelude.{ℕ, set}
use Rattle.list_model.specs.Contents.{Content}
pub use Rattle.list_model.specs.Commands.ReadList.{causes}

abbrev pub after : Content → ℕ → ℕ → Content
after content header n = record content { limits = set content.limits header n }
