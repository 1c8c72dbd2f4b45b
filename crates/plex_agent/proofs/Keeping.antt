-- Turns leave a desk its owner and its passes; and where no pass has seen more complete than it knows, none comes to.
use Rattle.plex_agent.proofs.Imports.{◌≡◌, ℕ, ◌+◌, ◌*◌, ◌≤◌, nat_lt, inl, inr, Bool, true, false, MatchBool, List, [], ◌∷◌, length, Option, None, Some, get_or, refl, sym, ap, subst, ◌∙◌, arith, Kind, StrForm, StrNo, Told, Step, AnyAsk, Act, Line, AgentEnd, step_after, PassShown, NoteShown, with_call, CellShown, DeskShown, no_pass, pass_at, with_pass, AtWork, Steps, Halts, EndsAt, Asks, Tests, TestsWord, ShowsOnly, Acts, Turns, Departs, Shown, Sight}
use Rattle.std.proofs.lemmas.List.{length-set}
use Rattle.plex_board.specs.Callers as alone
use Rattle.plex_agent.proofs.{Closings.departing, Lookups.any_set, Spots.str}

-- ---- what stays of desks: no number that is seen complete is above what is known

abbrev pub IsInOrder : PassShown → Type 0
IsInOrder pass = pass.sure ≤ pass.known

abbrev pub IsOrdered : DeskShown → Type 0
IsOrdered desk = (x : ℕ) → IsInOrder (get_or desk.passes x no_pass)

abbrev pub IsNoteOrdered : Option NoteShown → Type 0
IsNoteOrdered None = Unit {0}
IsNoteOrdered (Some note) = note.sure ≤ note.known

pub record Keeps (before after : DeskShown) : Type 0 where
  pub owner : after.owner ≡ before.owner
  pub size : length after.passes ≡ length before.passes
  pub ordered : IsOrdered before → IsOrdered after

pub keeps_same : (before after : DeskShown) → after ≡ before → Keeps before after
keeps_same before after same = grind arith

keeps_pass : (on : StrNo) (pass : PassShown) (before after : DeskShown) → after ≡ with_pass on pass before
    → (IsOrdered before → IsInOrder pass) → Keeps before after
keeps_pass on pass before after same here = record {
  owner = ap (λ d. d.owner) same;
  size = ap (λ d. length d.passes) same ∙ length-set before.passes on.0 pass;
  ordered = λ ordered. subst IsOrdered (sym same)
      (any_set IsInOrder no_pass before.passes on.0 pass (here ordered) ordered);
}

pub keeps_then : (first second third : DeskShown) → Keeps first second → Keeps second third → Keeps first third
keeps_then first second third one two = grind arith

-- ---- turns keep it

steps_order : (kind : Kind) (line : Option AnyAsk) (now : Step) (pass : PassShown) (tolds : List Told) (last : Step)
    (pass' : PassShown) → Steps kind line now pass tolds last pass' → IsInOrder pass → IsInOrder pass'
steps_order kind line now pass [] last pass' steps order = subst IsInOrder (sym steps.1) order
steps_order kind line now pass (told ∷ tolds) last pass' (asked, next, above, reply, rest) order =
    steps_order kind line (step_after now told) (with_call asked told reply pass) tolds last pass' rest (omega arith)

halts_keep : (kind : Kind) (line : Option AnyAsk) (on : StrNo) (last : Step) (before after : DeskShown)
    → Halts kind line on last before after → Keeps before after
halts_keep kind line on last before after halts = keeps_pass _ _ _ _ halts.later.rest (λ ordered. halts.ordered)

asks_keep : (limit : ℕ) (kind : Kind) (line : Option AnyAsk) (on : StrNo) (first : Step) (before after : AtWork)
    → Asks limit kind line on first before after → Keeps before.desk after.desk
asks_keep limit kind line on first before after asks = keeps_then _ _ _ (keeps_pass _ _ _
    _ refl (λ ordered. steps_order _ _ _ _ _ _ _ asks.steps (ordered on.0))) (ends after.shown.end asks.ends)
  where
    ends : (end : AgentEnd) → EndsAt limit kind line on asks.last (with_pass on asks.pass before.desk) after.desk end
        → Keeps (with_pass on asks.pass before.desk) after.desk
    ends AgentEnd.Done (rests, same) = keeps_same _ _ same
    ends (AgentEnd.JournalFull place) (here, halts, full) = halts_keep _ _ _ _ _ _ halts
    ends (AgentEnd.NoMemory cause) (halts, same) = keeps_same _ _ same

-- a test tells what is known, and nothing of what is seen complete
tests_keep : (on : StrNo) (at : ℕ) (tests : List Sight) (before after : DeskShown) → (pass_at before on).known ≤ at
    → after ≡ with_pass on (record (pass_at before on) { known = at; tests = tests }) before → Keeps before after
tests_keep on at tests before after later same =
    keeps_pass on _ before after same (λ ordered. (let o = ordered on.0 in omega (arith, o, later)))

looked_keep : (b : Bool) (bad : Shown) (before after : AtWork) (Tested : Type 0) → (Tested
    → Keeps before.desk after.desk) → MatchBool b Tested (ShowsOnly bad before after) → Keeps before.desk after.desk
looked_keep true bad before after Tested keeps tested = keeps tested
looked_keep false bad before after Tested keeps only = keeps_same before.desk after.desk only.0

acts_keep : (limit : ℕ) (form : StrForm) (on : StrNo) (retry : ℕ) (done : Act) (before after : AtWork)
    → Acts limit form on retry done before after → Keeps before.desk after.desk
acts_keep limit form on retry (Act.Call asked) before after asks = asks_keep _ _ _ _ _ _ _ asks
acts_keep limit form on retry Act.Events before after asks = asks_keep limit form.kind None on _ before after asks
acts_keep limit form on retry (Act.Test index) before after (inl tests) = looked_keep (nat_lt index form.vector)
    _ before after _ (λ (test : Tests on index before after). tests_keep on _ _ _ _ test.later test.desk) tests
acts_keep limit form on retry (Act.Test index) before after (inr out) = keeps_same before.desk after.desk out.0
acts_keep limit form on retry (Act.TestWord word) before after (inl tests) =
    looked_keep (nat_lt (32 * word) form.vector) _ before after
    _ (λ (test : TestsWord on word before after). tests_keep on _ _ _ _ test.later test.desk) tests
acts_keep limit form on retry (Act.TestWord word) before after (inr out) = keeps_same before.desk after.desk out.0
acts_keep limit form on retry Act.Post before after acts = grind (arith, keeps_same)
acts_keep limit form on retry Act.Take before after (inl takes) =
    keeps_pass on (pass_at after.desk on) before.desk after.desk takes.later.rest (λ ordered. takes.known)
acts_keep limit form on retry Act.Take before after (inr out) = keeps_same before.desk after.desk out.0

pub turns_keep : (limit : ℕ) (form : StrForm) (line : Line) (before after : AtWork) → Turns limit form line before after
    → Keeps before.desk after.desk
turns_keep limit form line before after turns = grind (arith, acts_keep, keeps_same)

departs_keep : (limit : ℕ) (form : StrForm) (on : StrNo) (before after : AtWork) → Departs limit form on before after
    → Keeps before.desk after.desk
departs_keep limit form on before after departs = grind (arith, keeps_same, departing, asks_keep)

pub departs_each_keep : {L : Type 0} (k : ℕ) (cells : List (CellShown L)) (before after : AtWork)
    → alone.DepartsEach k cells before after → Keeps before.desk after.desk
departs_each_keep k [] before after same = keeps_same before.desk after.desk (ap (λ w. w.desk) same)
departs_each_keep k (cell ∷ cells) before after (between, one, rest) = keeps_then _ _ _ (departs_keep
    cell.limit cell.form (str k) before between one) (departs_each_keep (k + 1) cells between after rest)
