-- What a line's act shows, whichever it is; and a caller's lines, one after another.
use Rattle.plex_agent.proofs.Imports.{arith, ◌≡◌, ℕ, ◌*◌, ◌<◌, inl, inr, nat_lt, Bool, true, false, List, [], ◌∷◌, length, Some, None, refl, sym, ap, subst, ◌∙◌, append-nil, slice_get, MatchBool, ltb-true, StrForm, ConnId, StrNo, AnyHistory, Act, AgentEnd, Shown, Transcript, first_step, call_of, calls_on, RunsUpTo, ShowsAct, PassShown, Rising, pass_at, AtWork, Tests, TestsWord, ShowsOnly, RunsOut, Acts, ShowsUpTo, with_pass, with_item, with_pass-pass_at, Step, ◌≤◌, ◌++◌, append_assoc, slice_get_within, Line, length_on, ShowsLines, CellShown, DeskShown, BoardShown, cell_on, Turns, is_done_as, lines_by, DoesLines, Hears}
use Rattle.plex_agent.proofs.Passes.{Caller, advances_none, advances_one, Adds}
use Rattle.plex_agent.proofs.Adds.{test_adds, word_adds, bad_adds, post_adds, take_adds, with_test, with_word}
use Rattle.plex_agent.proofs.Moves.{moves_by, moves_still, AreWithin, Goes, goes_then, moves_go, hears_go}
use Rattle.plex_agent.proofs.Turns.{EndsAs, Turned, asks_turned}
use Rattle.plex_agent.proofs.{Hearings.hears_then, Spots.same_number}

-- what is shown of an act, in whole or up to a next call
abbrev pub ShownWhole : StrForm → List AnyHistory → ConnId → StrNo → ℕ → Act → List Shown → Type 0
ShownWhole form histories by on retry done part = ShowsAct form (calls_on histories on) by on retry done part

abbrev pub ShownUpTo : StrForm → List AnyHistory → ConnId → StrNo → ℕ → Act → List Shown → Type 0
ShownUpTo form histories by on retry done part =
    RunsUpTo form.kind (call_of done) (calls_on histories on) by on (first_step done retry) part

-- the same where memory was lacking: up to a next item
abbrev pub ShownCut : StrForm → List AnyHistory → ConnId → StrNo → ℕ → Act → List Shown → Type 0
ShownCut form histories by on retry done part = ShowsUpTo form (calls_on histories on) by on retry done part

abbrev pub TurnedBy : Caller → ℕ → StrForm → StrNo → ℕ → ConnId → AtWork → AtWork → Act → Type 0
TurnedBy me limit form on retry by before after done = Turned me limit by on (ShownWhole form me.histories by on retry
    done) (ShownUpTo form me.histories by on retry done) (ShownCut form me.histories by on retry done) before after

module _ (me : Caller) (limit : ℕ) (form : StrForm) (on : StrNo) (retry : ℕ) (by : ConnId)
    (before after : AtWork) (going : before.shown.end ≡ AgentEnd.Done) (known : slice_get me.forms on.0 ≡ Some form)
    (rise : Rising 0 (calls_on me.histories on)) (inside : on.0 < length before.desk.passes) where
  abbrev IsTurned : Act → Type 0
  IsTurned done = TurnedBy me limit form on retry by before after done

  abbrev Ends : Act → List Shown → AgentEnd → Type 0
  Ends done = EndsAs me limit on (ShownWhole form me.histories by on retry done)
      (ShownUpTo form me.histories by on retry done) (ShownCut form me.histories by on retry done)

  abbrev was : PassShown
  was = pass_at before.desk on

  runs_out : (done : Act) → RunsOut before after → ShownCut form me.histories by on retry done [] → IsTurned done
  runs_out done (desk, shows) cut = record {
    part = [];
    moves = moves_still me on
        before after [] desk (grind (arith, append-nil)) (advances_none me on (pass_at before.desk on));
    shows = λ owner within. subst (Ends done []) (sym (ap (λ (t : Transcript). t.end) shows)) cut;
  }

  -- an item is shown, and the pass becomes this
  item_moves : (done : Act) (item : Shown) (pass : PassShown) → Adds me on was pass item
      → after.desk ≡ with_pass on pass before.desk → after.shown ≡ with_item item before.shown
      → ShownWhole form me.histories by on retry done (item ∷ []) → IsTurned done
  item_moves done item pass adds desk shows whole = record {
    part = item ∷ [];
    moves = moves_by _ _ _ _ _ _ inside desk (ap (λ t. t.items) shows) (advances_one _ _ _ _ _ adds);
    shows = λ owner within. rw (ap (λ t. t.end) shows ∙ going) whole;
  }

  -- an item is shown, and nothing else happens
  item_still : (done : Act) (item : Shown) → Adds me on was was item → ShowsOnly item before after
      → ShownWhole form me.histories by on retry done (item ∷ []) → IsTurned done
  item_still done item adds (desk, shows) whole =
      item_moves done item was adds (desk ∙ sym (with_pass-pass_at before.desk on)) shows whole

  tested : (index : ℕ) (b : Bool) → nat_lt index form.vector ≡ b → MatchBool b (Tests on index before after)
      (ShowsOnly (Shown.BadIndex on index false form.vector) before after) → IsTurned (Act.Test index)
  tested index true within tests = item_moves (Act.Test index) (Shown.Test on index tests.bit tests.at)
      (with_test me on was index tests.bit tests.at) (test_adds me on was index tests.bit
      tests.at tests.later (grind (arith, ltb-true))) tests.desk tests.shown (rw within (tests.bit, (tests.at, refl)))
  tested index false past only = item_still (Act.Test index)
      (Shown.BadIndex on index false form.vector) (bad_adds me on was index false form.vector) only (rw past refl)

  word_tested : (word : ℕ) (b : Bool) → nat_lt (32 * word) form.vector ≡ b → MatchBool b (TestsWord on word
      before after) (ShowsOnly (Shown.BadIndex on word true form.vector) before after) → IsTurned (Act.TestWord word)
  word_tested word true within tests = item_moves (Act.TestWord word) (Shown.Word on word tests.bits tests.at)
      (with_word me on was word tests.bits tests.at) (word_adds me on was word tests.bits
      tests.at tests.fits tests.later) tests.desk tests.shown (rw within (tests.bits, (tests.at, refl)))
  word_tested word false past only = item_still (Act.TestWord word)
      (Shown.BadIndex on word true form.vector) (bad_adds me on was word true form.vector) only (rw past refl)

  pub acts_turned : (done : Act) → Acts limit form on retry done before after → IsTurned done
  acts_turned (Act.Call asked) asks =
      asks_turned me limit form.kind (Some asked) on by (Step.Call retry) before rise inside after asks
  acts_turned Act.Events asks =
      asks_turned me limit form.kind None on by (first_step Act.Events retry) before rise inside after asks
  acts_turned (Act.Test index) (inl tests) = tested index (nat_lt index form.vector) refl tests
  acts_turned (Act.Test index) (inr out) = runs_out (Act.Test index) out refl
  acts_turned (Act.TestWord word) (inl tests) = word_tested word (nat_lt (32 * word) form.vector) refl tests
  acts_turned (Act.TestWord word) (inr out) = runs_out (Act.TestWord word) out refl
  acts_turned Act.Post (inl posts) =
      item_still Act.Post (Shown.Posted on was.sure) (post_adds me on was posts.known) posts.shows (was.sure, refl)
  acts_turned Act.Post (inr out) = runs_out Act.Post out refl
  acts_turned Act.Take (inl takes) =
      let pass : PassShown = pass_at after.desk on in
      item_moves Act.Take (Shown.Took on pass.sure) pass (take_adds me on was pass takes.later.later takes.known)
      takes.later.rest takes.shown (pass.sure, refl)
  acts_turned Act.Take (inr out) = runs_out Act.Take out refl

-- ---- where callers work

-- the cells of a board are those of these forms, with this limit; and the histories' calls are numbered upwards
pub record IsSetting {L : Type 0} (limit : ℕ) (board : BoardShown L) (forms : List StrForm)
    (histories : List AnyHistory) : Type 0 where
  pub limits : (x : ℕ) (cell : CellShown L) → slice_get board.cells x ≡ Some cell → cell.limit ≡ limit
  pub forms_are : (x : ℕ) (cell : CellShown L) → slice_get board.cells x ≡ Some cell
      → slice_get forms x ≡ Some cell.form
  pub rise : (on : StrNo) → Rising 0 (calls_on histories on)

-- a caller's passes are its own
abbrev pub Owns : ConnId → DeskShown → Type 0
Owns conn desk = (on : StrNo) → on.0 < length desk.passes → (pass_at desk on).owner ≡ conn

pub owns_still : (me : Caller) (before after : AtWork) (part : List Shown) → Goes me before after part
    → Owns me.conn before.desk → Owns me.conn after.desk
owns_still me before after part goes owns on within = grind arith

-- ---- how a caller's work comes on

module _ (me : Caller) (End : List Shown → AgentEnd → Type 0) (Given : Type 0) where
  -- a caller was shown items by which its work ends so, where this is given
  pub record Comes (before after : AtWork) : Type 0 where
    pub part : List Shown
    pub goes : Goes me before after part
    pub shows : Given → AreWithin me after.desk → End part after.shown.end

  -- behind the end it only hears
  pub comes_still : (before between after : AtWork) (part : List Shown) → Goes me before between part
      → (end : AgentEnd) → between.shown.end ≡ end → Hears between after
      → (Given → AreWithin me between.desk → End part end) → Comes before after
  comes_still before between after part first end is later shows =
      let same : after.shown.end ≡ end = ap (λ (t : Transcript). t.end) later.shown ∙ is in
      let goes : Goes me between after [] = hears_go me between after later in
      record {
        part = part;
        goes = subst (Goes me before after) (append-nil part) (goes_then me before between after part [] first goes);
        shows = λ given within. subst (End part) (sym same) (shows given (goes.back within));
      }

-- ---- lines of one caller

abbrev pub AreBy : ConnId → List Line → Type 0
AreBy conn [] = Unit {0}
AreBy conn (line ∷ lines) = (line.by ≡ conn) × AreBy conn lines

pub own_lines : (conn : ConnId) (lines : List Line) → AreBy conn (lines_by conn lines)
own_lines conn [] = tt
own_lines conn (line ∷ lines) = grind (arith, same_number, own_lines conn lines)

module _ {L : Type 0} (limit : ℕ) (board : BoardShown L) (me : Caller)
    (setting : IsSetting limit board me.forms me.histories) where
  -- among its lines a caller's work ended in one, which was shown so far
  pub record EndedIn (Cuts : Line → StrForm → List Shown → Type 0) (lines : List Line) (part : List Shown) : Type 0
    where
      pub before : List Line
      pub line : Line
      pub later : List Line
      pub split : lines ≡ before ++ line ∷ later
      pub form : StrForm
      pub known : slice_get me.forms line.on.0 ≡ Some form
      pub during : List Shown
      pub last : List Shown
      pub shows : part ≡ during ++ last
      pub played : ShowsLines me.forms me.histories before during
      pub cut : Cuts line form last

  -- it stopped before a call on a structure whose journal is full
  abbrev pub Stopped : StrNo → Line → StrForm → List Shown → Type 0
  Stopped on line form last = (line.on ≡ on)
      × ShownUpTo form me.histories me.conn on line.retry line.act last × (limit ≤ length_on me.histories on)

  -- it ended for want of memory
  abbrev pub Broken : Line → StrForm → List Shown → Type 0
  Broken line form last = ShownCut form me.histories me.conn line.on line.retry line.act last

  -- how lines end
  abbrev pub LinesEnd : List Line → List Shown → AgentEnd → Type 0
  LinesEnd lines part AgentEnd.Done = ShowsLines me.forms me.histories lines part
  LinesEnd lines part (AgentEnd.JournalFull on) = EndedIn (Stopped on) lines part
  LinesEnd lines part (AgentEnd.NoMemory cause) = EndedIn Broken lines part

  abbrev pub Played : List Line → AtWork → AtWork → Type 0
  Played lines before after = Comes me (LinesEnd lines) (Owns me.conn before.desk) before after

  -- a caller whose work has ended does nothing more, but hears
  lines_rest : (lines : List Line) (before after : AtWork) → is_done_as before.shown.end ≡ false
      → DoesLines board lines before after → Hears before after
  lines_rest [] before after stopped hears = hears
  lines_rest (line ∷ lines) before after stopped (cell, there, (between, (ready, hears, turn), rest)) =
      let still = ap (λ t. is_done_as t.end) hears.shown ∙ stopped in
      let same = rw still at turn in
      hears_then _ _ _ (subst (Hears before) (sym same) hears)
      (lines_rest lines between after (ap (λ w. is_done_as w.shown.end) same ∙ still) rest)

  line_turned : (line : Line) (cell : CellShown L) (before after : AtWork) → cell_on board line.on ≡ Some cell
      → before.shown.end ≡ AgentEnd.Done → length before.desk.passes ≡ length board.cells → Turns cell.limit
      cell.form line before after → TurnedBy me limit cell.form line.on line.retry line.by before after line.act
  line_turned line cell before after there going long turns = grind (arith, acts_turned, slice_get_within)

  -- how one line ends
  abbrev LineEnds : Line → StrForm → List Shown → AgentEnd → Type 0
  LineEnds line form part end = EndsAs me limit line.on (ShownWhole form me.histories line.by
      line.on line.retry line.act) (ShownUpTo form me.histories line.by line.on line.retry line.act)
      (ShownCut form me.histories line.by line.on line.retry line.act) part end

  module _ (line : Line) (lines : List Line) (form : StrForm) (part : List Shown)
      (known : slice_get me.forms line.on.0 ≡ Some form) where
    -- one line before others
    ended_behind : (Cuts : Line → StrForm → List Shown → Type 0) (more : List Shown)
        → ShownWhole form me.histories line.by line.on line.retry line.act part → EndedIn Cuts lines more
        → EndedIn Cuts (line ∷ lines) (part ++ more)
    ended_behind Cuts more whole rest = record {
      before = line ∷ rest.before;
      line = rest.line;
      later = rest.later;
      split = ap (λ (t : List Line). line ∷ t) rest.split;
      form = rest.form;
      known = rest.known;
      during = part ++ rest.during;
      last = rest.last;
      shows = ap (λ (t : List Shown). part ++ t) rest.shows ∙ sym (append_assoc part rest.during rest.last);
      played = (form, (part, (rest.during, known, refl, whole, rest.played)));
      cut = rest.cut;
    }

    line_then : (more : List Shown) (end : AgentEnd) → ShownWhole form me.histories line.by
        line.on line.retry line.act part → LinesEnd lines more end → LinesEnd (line ∷ lines) (part ++ more) end
    line_then more AgentEnd.Done whole rest = (form, (part, (more, known, refl, whole, rest)))
    line_then more (AgentEnd.JournalFull on) whole rest = ended_behind (Stopped on) more whole rest
    line_then more (AgentEnd.NoMemory cause) whole rest = ended_behind Broken more whole rest

    -- the line in which it ended
    ended_here : (Cuts : Line → StrForm → List Shown → Type 0) → Cuts line form part → EndedIn Cuts (line ∷ lines) part
    ended_here Cuts cut = record {
      before = [];
      line = line;
      later = lines;
      split = refl;
      form = form;
      known = known;
      during = [];
      last = part;
      shows = refl;
      played = refl;
      cut = cut;
    }

  pub lines_play : (lines : List Line) (before after : AtWork) → before.shown.end ≡ AgentEnd.Done
      → length before.desk.passes ≡ length board.cells
      → AreBy me.conn lines → DoesLines board lines before after → Played lines before after
  lines_play [] before after going long mine hears = record {
    part = [];
    goes = hears_go me before after hears;
    shows = λ owns within. subst (LinesEnd [] []) (sym (ap (λ (t : Transcript). t.end) hears.shown ∙ going)) refl;
  }
  lines_play (line ∷ lines) before after going long mine (cell, there, (between, (ready, hears, turn), rest)) =
      by_end between.shown.end
      refl (λ open'. lines_play lines between after open' (turned.moves.passes ∙ ready_long) mine.1 rest)
    where
      heard : Goes me before ready []
      heard = hears_go _ _ _ hears

      ready_long : length ready.desk.passes ≡ length board.cells
      ready_long = hears.passes ∙ long

      turned : TurnedBy me limit cell.form line.on line.retry line.by ready between line.act
      turned = line_turned line cell ready between there (ap (λ t. t.end) hears.shown ∙ going) ready_long turn

      first : Goes me before between turned.part
      first = goes_then _ _ _ _ _ _ heard (moves_go _ _ _ _ _ turned.moves)

      known : slice_get me.forms line.on.0 ≡ Some cell.form
      known = setting.forms_are line.on.0 cell there

      inside : line.on.0 < length ready.desk.passes
      inside = omega (arith, slice_get_within board.cells line.on.0 cell there, ready_long)

      ends : Owns me.conn before.desk → AreWithin me between.desk
          → LineEnds line cell.form turned.part between.shown.end
      ends owns within = turned.shows (owns_still _ _ _ _ heard owns line.on inside ∙ sym mine.0) (within line.on)

      still : (end : AgentEnd) → between.shown.end ≡ end → is_done_as end ≡ false → (LineEnds line
          cell.form turned.part end → LinesEnd (line ∷ lines) turned.part end) → Played (line ∷ lines) before after
      still end is stopped shows = comes_still _ _ _ _ _ _ _ first _ is (grind (arith, lines_rest))
          (λ owns within. shows (subst (LineEnds line cell.form turned.part) is (ends owns within)))

      by_end : (end : AgentEnd) → between.shown.end ≡ end
          → (between.shown.end ≡ AgentEnd.Done → Played lines between after) → Played (line ∷ lines) before after
      by_end AgentEnd.Done is later =
          let others = later is in
          record {
            part = turned.part ++ others.part;
            goes = goes_then _ _ _ _ _ _ first others.goes;
            shows = λ owns within. line_then _ _ _ _ known _ _ (subst (LineEnds line cell.form turned.part)
                is (ends owns (others.goes.back within))) (others.shows (owns_still _ _ _ _ first owns) within);
          }
      by_end (AgentEnd.JournalFull on) is later = still (AgentEnd.JournalFull on) is refl (
          grind (arith, ends, ended_here, known, ShownUpTo))
      by_end (AgentEnd.NoMemory cause) is later =
          still (AgentEnd.NoMemory cause) is refl (grind (arith, ends, ended_here, known))
