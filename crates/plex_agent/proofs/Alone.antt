-- A caller that hears of nobody between its turns.
use Rattle.plex_agent.proofs.Imports.{arith, ℕ, ◌+◌, List, [], ◌∷◌, sym, ap, subst, Line, CellShown, BoardShown, AtWork, Hears, DoesLines, DepartsEach, Serves}
use Rattle.plex_board.specs.Callers as alone
use Rattle.plex_agent.proofs.Hearings.{hears_none}
use Rattle.plex_agent.proofs.Keeping.{Keeps, keeps_same, keeps_then, turns_keep}

-- a caller that heard, and then departed with no hearing between
pub departs_heard : {L : Type 0} (k : ℕ) (cells : List (CellShown L)) (before ready after : AtWork)
    → Hears before ready → alone.DepartsEach k cells ready after → DepartsEach k cells before after
departs_heard k [] before ready after hears same = subst (Hears before) (sym same) hears
departs_heard k (cell ∷ cells) before ready after hears (between, one, rest) =
    grind (arith, hears_none, departs_heard (k + 1) cells between between after (hears_none between) rest)

lines_alone : {L : Type 0} (board : BoardShown L) (lines : List Line) (before after : AtWork)
    → alone.DoesLines board lines before after → DoesLines board lines before after
lines_alone board [] before after same = subst (Hears before) (sym same) (hears_none before)
lines_alone board (line ∷ lines) before after (cell, there, (between, turn, rest)) =
    (cell, there, (between, (before, hears_none before, turn), lines_alone board lines between after rest))

lines_keep : {L : Type 0} (board : BoardShown L) (lines : List Line) (before after : AtWork)
    → alone.DoesLines board lines before after → Keeps before.desk after.desk
lines_keep board [] before after same = keeps_same before.desk after.desk (ap (λ w. w.desk) same)
lines_keep board (line ∷ lines) before after (cell, there, (between, turn, rest)) =
    grind (arith, keeps_then, turns_keep, lines_keep board lines between after rest)

-- what a caller does that has a thread to itself is its whole work, with no hearings
pub alone_serves : {L : Type 0} (board : BoardShown L) (lines : List Line) (before after : AtWork)
    → alone.Serves board lines before after → Serves board lines before after
alone_serves board lines before after serves = grind (arith, lines_alone, lines_keep, hears_none, departs_heard)
