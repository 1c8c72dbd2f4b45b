-- What is said of the links of a run: what they may tell before it, and what became of them.
use Rattle.std.specs.Prelude.{ℕ, List, Option}
use Rattle.plex_load.specs.CfTypes.declared.forms.StrForm.{StrForm}
use Rattle.plex_load.specs.CfTypes.declared.numbers.CfId.{CfId}
use Rattle.plex_agent.specs.CfLink.Links.{Telling}
use Rattle.plex_load.specs.PlexScript.declared.asks.AnyHistory.{AnyHistory}
use Rattle.plex_agent.specs.PlexBoard.RunLinks.{AreTelling, AreRunLinks}

-- whether the links of so many structures tell this, and whether they were asked as the histories of structures of these
-- forms tell
pub record Wires : Type 1 where
  pub telling : (ℕ → CfId → Telling) → ℕ → Type 0
  pub asked : List StrForm → List AnyHistory → Type 0

-- links as they were before a run, and as they are
abbrev pub wires : {L : Type 0} → (L → Option ℕ) → (L → Option (List ℕ)) → (L → ℕ) → List L → List L → Wires
wires calls downs faults old new =
    record {
      telling = λ told structures. AreTelling calls downs faults told structures old;
      asked = λ forms histories. AreRunLinks calls downs faults forms histories old new;
    }
