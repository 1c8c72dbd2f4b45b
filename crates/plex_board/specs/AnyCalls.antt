-- What a caller's next call makes of a history of whatever kind, and what the links answered in one.
use Rattle.std.specs.Prelude.{ℕ, Bool, false, List}
use Rattle.plex_script.specs.CfTypes.declared.forms.StrForm.{StrForm}
use Rattle.plex_script.specs.CfTypes.declared.numbers.CfId.{CfId}
use Rattle.plex_script.specs.CfTypes.declared.numbers.ConnId.{ConnId}
use Rattle.struct_cell.specs.CfLink.Links.{Telling, IsAsTold}
use Rattle.plex_script.specs.EngineApi.declared.told.Told.{Told}
use Rattle.plex_script.specs.EngineApi.Answers.{answers, marks_at}
use Rattle.plex_script.specs.EngineApi.Told.{told_plainly}
use Rattle.run_shown.specs.LockModel.Meaning.{lock_meaning}
use Rattle.run_shown.specs.QueueModel.ListQueues.{queued_lists}
use Rattle.run_shown.specs.Meanings.{altered_caches}
use Rattle.plex_script.specs.declared.scripts.AnyAsk.{AnyAsk}
use Rattle.plex_script.specs.declared.scripts.AnyAsk.TheVariants as ask
use Rattle.plex_script.specs.declared.asks.AnyHistory.{AnyHistory}
use Rattle.plex_script.specs.declared.asks.AnyHistory.TheVariants as history
use Rattle.plex_board.specs.Told.{next_by, told_by}

-- ---- the next call

-- a caller's next call over links that tell this, and what is told of it. An ask of another kind is none
abbrev pub any_next : StrForm → (CfId → Telling) → AnyHistory → ConnId → AnyAsk → AnyHistory
any_next form told (history.Cache entries) by (ask.Cache asked) =
    history.Cache (next_by altered_caches form told entries by asked)
any_next form told (history.Cache entries) by (ask.List asked) = history.Cache entries
any_next form told (history.Cache entries) by (ask.Lock asked) = history.Cache entries
any_next form told (history.List entries) by (ask.Cache asked) = history.List entries
any_next form told (history.List entries) by (ask.List asked) =
    history.List (next_by queued_lists form told entries by asked)
any_next form told (history.List entries) by (ask.Lock asked) = history.List entries
any_next form told (history.Lock entries) by (ask.Cache asked) = history.Lock entries
any_next form told (history.Lock entries) by (ask.List asked) = history.Lock entries
any_next form told (history.Lock entries) by (ask.Lock asked) =
    history.Lock (next_by lock_meaning form told entries by asked)

abbrev pub any_told : StrForm → (CfId → Telling) → AnyHistory → ConnId → AnyAsk → Told
any_told form told (history.Cache entries) by (ask.Cache asked) = told_by altered_caches form told entries by asked
any_told form told (history.Cache entries) by (ask.List asked) = told_plainly 0 false
any_told form told (history.Cache entries) by (ask.Lock asked) = told_plainly 0 false
any_told form told (history.List entries) by (ask.Cache asked) = told_plainly 0 false
any_told form told (history.List entries) by (ask.List asked) = told_by queued_lists form told entries by asked
any_told form told (history.List entries) by (ask.Lock asked) = told_plainly 0 false
any_told form told (history.Lock entries) by (ask.Cache asked) = told_plainly 0 false
any_told form told (history.Lock entries) by (ask.List asked) = told_plainly 0 false
any_told form told (history.Lock entries) by (ask.Lock asked) = told_by lock_meaning form told entries by asked

-- ---- links

-- what the link to a facility answered, one answer for each call of which the history has that it asked the link
abbrev pub any_answers : StrForm → AnyHistory → CfId → List Bool
any_answers form (history.Cache entries) cf = answers altered_caches form entries cf
any_answers form (history.List entries) cf = answers queued_lists form entries cf
any_answers form (history.Lock entries) cf = answers lock_meaning form entries cf

-- how many marks a history has of a facility
abbrev pub any_marks_at : AnyHistory → CfId → ℕ
any_marks_at (history.Cache entries) cf = marks_at entries cf
any_marks_at (history.List entries) cf = marks_at entries cf
any_marks_at (history.Lock entries) cf = marks_at entries cf

-- the links answered what they tell
abbrev pub AreAnyAsTold : StrForm → (CfId → Telling) → AnyHistory → Type 0
AreAnyAsTold form told entries = (cf : CfId) → IsAsTold (told cf) (any_answers form entries cf)
