-- Entries that are meant so, of histories of whatever kind.
use Rattle.std.specs.Prelude.{◌≡◌, ℕ, slice_get, Some, All}
use Rattle.cf_types.specs.declared.numbers.StrNo.{StrNo}
use Rattle.plex_script.specs.declared.asks.AnyHistory.{AnyHistory}
use Rattle.plex_script.specs.declared.asks.AnyHistory.TheVariants as history
use Rattle.plex_script.specs.declared.scripts.AnyAsk.TheVariants as ask
use Rattle.plex_script.specs.declared.scripts.Script.{Script}
use Rattle.plex_report.specs.ReplyWords.{alter_reply_words, queue_reply_words, lock_reply_words}
use Rattle.check_model.specs.declared.printed.Printed.{Printed}
use Rattle.reply_rows.specs.Contents.{alter_answers, queue_answers, lock_answers}
use Rattle.report_lines.specs.Picked.{IsPicked}

-- each entry is the one that is read of its words
abbrev pub ArePickedEntries : Script → StrNo → AnyHistory → Type 0
ArePickedEntries script on (history.Cache entries) =
    All (IsPicked (λ asked. ask.Cache asked) alter_reply_words alter_answers script on) entries
ArePickedEntries script on (history.List entries) =
    All (IsPicked (λ asked. ask.List asked) queue_reply_words queue_answers script on) entries
ArePickedEntries script on (history.Lock entries) =
    All (IsPicked (λ asked. ask.Lock asked) lock_reply_words lock_answers script on) entries

-- and so in all histories
abbrev pub ArePicked : Script → Printed → Type 0
ArePicked script printed =
    (x : ℕ) (entries : AnyHistory) → slice_get printed.histories x ≡ Some entries
    → ArePickedEntries script (record { 0 = x }) entries
