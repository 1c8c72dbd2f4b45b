-- Entries of a history, one line each.
use Rattle.std.proofs.Common.{◌≡◌, ℕ, ◌+◌, List, [], ◌∷◌, drop, refl, sym, subst}
use Rattle.std.specs.Prelude.{Option, Some, None, IfSome, IfNone}
use Rattle.report_texts.specs.CheckModel.RunShown.CfTypes.declared.numbers.StrNo.{StrNo}
use Rattle.report_texts.specs.CheckModel.RunShown.PlexScript.declared.scripts.Script.{Script}
use Rattle.report_texts.specs.CheckModel.RunShown.PlexScript.Limits.{KeepsLimits}
use Rattle.report_texts.specs.Texts.{feeds}
use Rattle.report_fronts.specs.Fronts.{AreReportsFree}
use Rattle.report_fronts.specs.Slots.{Slot, Opens}
use Rattle.report_fronts.specs.Slots.Slot.{Entered}
use Rattle.report_fronts.proofs.EntryLaws.{entries_free, items_free}
use Rattle.report_fronts.proofs.FreeLaws.{reports_free}
use Rattle.report_fronts.proofs.StepLaws.{reads_line, stops_short, stops_other}
use Rattle.report_read.specs.declared.cursor.Cursor.{Cursor}
use Rattle.report_read.specs.declared.cursor.TextBad.TheVariants as bad
use Rattle.report_read.specs.Lines.{at_of, IsCut}
use Rattle.report_read.specs.Reads.{IsRead, IsStop}
use Rattle.report_read.specs.Histories.{Shows}

pub frees : (script : Script) → KeepsLimits script → AreReportsFree script
frees script keeps = reports_free script keeps (entries_free script keeps) (items_free script keeps)

module _ (script : Script) (text : List ℕ) (from : Cursor) where
  -- ---- one slot, one line

  pub line_read : (to : Cursor) (slot : Slot) (line : List ℕ) (left : List Slot) → IsCut text from line to
      → Opens script slot line left → IsRead script text from (slot ∷ []) (line ∷ []) left to
  line_read to slot line left cut opens = record {
    reads = reads_line script text (at_of from) (at_of to) slot left line cut.free cut.is cut.count opens;
    placed = cut.placed;
  }

  pub line_other : (to : Cursor) (slot : Slot) (line : List ℕ) → KeepsLimits script → IsCut text from line to
      → ((left : List Slot) → Opens script slot line left → ⊥)
      → IsStop script text from (slot ∷ []) (bad.Line (from.count + 1))
  line_other to slot line keeps cut none =
      stops_other script text (frees script keeps) (at_of from) slot line (drop to.at text) cut.free cut.is none

  pub line_short : (slot : Slot) → KeepsLimits script → feeds (drop from.at text) ≡ 0
      → IsStop script text from (slot ∷ []) (bad.Line (from.count + 1))
  line_short slot keeps none = stops_short script text (frees script keeps) (at_of from) slot none

-- ---- entries

module _ {E : Type 0} (prints : Script → E → List ℕ) (may : Script → StrNo → E → Type 0) (script : Script)
    (on : StrNo) (text : List ℕ) (from : Cursor) (shows : Shows prints may script on) where
  pub entry_read : (entry : E) (line : List ℕ) (to : Cursor) → IsCut text from line to
      → (prints script entry ≡ line) × may script on entry
      → may script on entry × IsRead script text from (Entered on ∷ []) (prints script entry ∷ []) [] to
  entry_read entry line to cut found =
      let same = subst (λ (l : List ℕ). IsCut text from l to) (sym found.0) cut in (
        found.1,
        line_read script text from to (Entered on) (prints script entry) [] same (shows.told entry found.1, refl),
      )

  pub entry_other : (line : List ℕ) (to : Cursor) → KeepsLimits script → IsCut text from line to
      → ((entry : E) → may script on entry → prints script entry ≡ line → ⊥)
      → IsStop script text from (Entered on ∷ []) (bad.Line (from.count + 1))
  entry_other line to keeps cut none = line_other script text from to (Entered on) line keeps cut (λ left opens.
      let s = shows.only line opens.0 in
      none s.0 s.1 (sym s.2))

  pub entry_missed : (line : List ℕ) (to : Cursor) (o : Option E) → KeepsLimits script → IsCut text from line to
      → IfNone o ((entry : E) → may script on entry → prints script entry ≡ line → ⊥) → o ≡ None
      → IsStop script text from (Entered on ∷ []) (bad.Line (from.count + 1))
  entry_missed line to o keeps cut none e = entry_other line to keeps cut
      (subst (λ (p : Option E). IfNone p ((entry : E) → may script on entry → prints script entry ≡ line → ⊥)) e none)

  pub entry_found : (meant : E → Type 0) (entry : E) (line : List ℕ) (to : Cursor) (o : Option E) → IsCut text from
      line to → IfSome o (λ e. (prints script e ≡ line) × may script on e) → IfSome o meant → o ≡ Some entry → (may
      script on entry × meant entry) × IsRead script text from (Entered on ∷ []) (prints script entry ∷ []) [] to
  entry_found meant entry line to o cut found picked e =
      let r = entry_read entry line to cut
      (subst (λ (p : Option E). IfSome p (λ e. (prints script e ≡ line) × may script on e)) e found) in
      ((r.0, subst (λ (p : Option E). IfSome p meant) e picked), r.1)
