-- The links of a run: structure x of the script, from 0, has those of its four facilities at 4 * x and behind it.
use Rattle.std.specs.Prelude.{◌≡◌, ◌<◌, ◌≤◌, ℕ, ◌+◌, ◌*◌, ◌-◌, Bool, List, [], length, slice_get, Option, Some, option_map}
use Rattle.struct_cell.specs.CfIo.Count.{RisesBy}
use Rattle.plex_script.specs.CfTypes.declared.forms.StrForm.{StrForm}
use Rattle.plex_script.specs.CfTypes.declared.numbers.CfId.{CfId}
use Rattle.plex_script.specs.CfTypes.Forms.{IsFacility}
use Rattle.struct_cell.specs.CfLink.Links.{Telling, Tells, IsAsTold, IsAskedAll, calls_after}
use Rattle.plex_script.specs.declared.asks.AnyHistory.{AnyHistory}
use Rattle.plex_board.specs.AnyCalls.{any_answers, any_marks_at}

-- where the link of a structure to a facility stands
abbrev pub link_place : ℕ → CfId → ℕ
link_place x cf = 4 * x + (cf.0 - 1)

module _ {L : Type 0} (calls : L → Option ℕ) (downs : L → Option (List ℕ)) (faults : L → ℕ) where
  -- the links of so many structures tell this
  abbrev pub AreTelling : (ℕ → CfId → Telling) → ℕ → List L → Type 0
  AreTelling told structures links =
      (x : ℕ) (cf : CfId) (link : L) → x < structures → IsFacility cf
      → slice_get links (link_place x cf) ≡ Some link → Tells calls downs faults (told x cf) link

  -- What a history has to do with a link to a facility that was asked in the run, as it was and as it is: it answered
  -- once for each call of the history that asked it. So its faults rose by as many as there are marks of the facility,
  -- or more; its calls rose by as many as asked it; and where it tells which calls are down, those calls have a mark that
  -- it lists, and no others.
  pub record IsLinkOf (form : StrForm) (entries : AnyHistory) (cf : CfId) (old new : L) : Type 0 where
    pub asked : IsAskedAll calls downs faults (any_answers form entries cf) old new
    pub marks : RisesBy (any_marks_at entries cf) (faults old) (faults new)
    pub counted : calls new ≡ option_map (calls_after (any_answers form entries cf)) (calls old)
    pub told : (told : Telling) → Tells calls downs faults told old → IsAsTold told (any_answers form entries cf)

  -- the links of a run's structures, of these forms and with these histories in the end; those that no structure has
  -- are as they were
  pub record AreRunLinks (forms : List StrForm) (histories : List AnyHistory) (old new : List L) : Type 0 where
    pub size : length new ≡ length old
    pub each : (x : ℕ) (form : StrForm) (entries : AnyHistory) (cf : CfId) (one other : L)
        → slice_get forms x ≡ Some form → slice_get histories x ≡ Some entries → IsFacility cf
        → slice_get old (link_place x cf) ≡ Some one → slice_get new (link_place x cf) ≡ Some other
        → IsLinkOf form entries cf one other
    pub others : (x : ℕ) (form : StrForm) (entries : AnyHistory) (cf : CfId)
        → slice_get forms x ≡ Some form → slice_get histories x ≡ Some entries → ¬ IsFacility cf
        → any_answers form entries cf ≡ []
    pub spare : (i : ℕ) → 4 * length forms ≤ i → slice_get new i ≡ slice_get old i
