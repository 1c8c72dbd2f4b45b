-- How many calls on a structure the items of a caller show: no more than its lines and its closing make.
use Rattle.run_laws.proofs.Imports.{◌≡◌, ◌≢◌, ◌⊎◌, inl, inr, ℕ, suc, ◌+◌, ◌≤◌, ◌==◌, Bool, true, false, cond, List, [], ◌∷◌, ◌++◌, length, take, Option, sym, ap, ◌∙◌, arith, length-append, nat_tests, filter_map-append, sum_by-append, sum_by-cons, Kind, StrForm, ConnId, StrNo, Told, Step, AnyHistory, Act, AnyAsk, Line, Script, Shown, first_step, step_after, most_asks, asked_by, call_of, AnyCall, calls_on, IsHeard, Runs, RunsUpTo, ShowsAct, ShowsLines, ShowsClosing, ShowsClosings, Follows, StopsInLine, StopsInClosing, lines_of, numbers_on, MatchBool, nat_le, fewer_asks, test_numbers, word_numbers, most_of_line, most_of_lines}
use Rattle.std.proofs.lemmas.List.{nil_from_length}

-- how many calls on a structure items show
abbrev pub calls_shown : StrNo → List Shown → ℕ
calls_shown on items = length (numbers_on on items)

-- items in two parts
shown_both : (on : StrNo) (items first others : List Shown) → items ≡ first ++ others
    → calls_shown on items ≡ calls_shown on first + calls_shown on others
shown_both on items first others split = grind (arith, filter_map-append, length-append)

pub none_shown : (on : StrNo) (items : List Shown) → calls_shown on items ≤ 0 → numbers_on on items ≡ []
none_shown on items few = nil_from_length (numbers_on on items) (omega (arith, few))

shown_none : (on : StrNo) (items : List Shown) (most : ℕ) → numbers_on on items ≡ [] → calls_shown on items ≤ most
shown_none on items most none = rw none (omega arith)

-- ---- one line

-- a step that asks something isn't the last
pub heard_goes : (kind : Kind) (line : Option AnyAsk) (calls : List AnyCall) (by : ConnId) (number : ℕ) (told : Told)
    (now : Step) → IsHeard calls by (asked_by kind line now) number told → now ≢ Step.Rest
heard_goes kind line calls by number told now heard rests = grind arith

-- one more call, on this structure or elsewhere
call_few : (there : Bool) (on at place : StrNo) (number : ℕ) (items : List Shown) (less most : ℕ) → place ≡ at
    → at.0 == on.0 ≡ there → suc less ≤ most → calls_shown on items ≤ cond there less 0
    → calls_shown on (Shown.Call place number ∷ items) ≤ cond there most 0
call_few there on at place number items less most same is fewer few = grind arith

-- a step and the steps behind it, up to the end or to a next call, make as many calls as are left at most, and all of
-- them on their structure
module _ (kind : Kind) (line : Option AnyAsk) (calls : List AnyCall) (by : ConnId) (on at : StrNo) (there : Bool)
    (is : at.0 == on.0 ≡ there) where
  runs_few : (now : Step) (items : List Shown) → Runs kind line calls by at now items
      ⊎ RunsUpTo kind line calls by at now items → calls_shown on items ≤ cond there (most_asks now) 0
  runs_few now [] runs = omega arith
  runs_few now (Shown.Call place number ∷ items) (inl runs) =
      grind (arith, call_few, fewer_asks, heard_goes, runs_few (step_after now runs.0) items (inl runs.3))
  runs_few now (Shown.Call place number ∷ items) (inr runs) =
      grind (arith, call_few, fewer_asks, heard_goes, runs_few (step_after now runs.0) items (inr runs.3))
  runs_few now (_ ∷ items) (inl runs) = absurd runs
  runs_few now (_ ∷ items) (inr runs) = absurd runs

-- an act runs the steps from its first one on, or makes no call
pub act_runs : (form : StrForm) (calls : List AnyCall) (by : ConnId) (at : StrNo) (retry : ℕ) (done : Act)
    (items : List Shown) → ShowsAct form calls by at retry done items → Runs form.kind (call_of done) calls by at
    (first_step done retry) items ⊎ ((first_step done retry ≡ Step.Rest) × ((on : StrNo) → numbers_on on items ≡ []))
act_runs form calls by at retry (Act.Call asked) items shows = inl shows
act_runs form calls by at retry Act.Events items shows = inl shows
act_runs form calls by at retry _ items shows = grind (arith, test_numbers, word_numbers)

-- so it makes as many calls as its first step has left at most
pub act_few : (form : StrForm) (calls : List AnyCall) (by : ConnId) (on at : StrNo) (retry : ℕ) (done : Act)
    (items : List Shown) → ShowsAct form calls by at retry done items
    → calls_shown on items ≤ cond (at.0 == on.0) (most_asks (first_step done retry)) 0
act_few form calls by on at retry done items shows = grind (arith, act_runs, runs_few, shown_none)

-- ---- the lines of a caller

-- how many calls a line makes on a structure at most
abbrev pub most_on : StrNo → Line → ℕ
most_on on line = cond (line.on.0 == on.0) (most_of_line line) 0

lines_few : (forms : List StrForm) (histories : List AnyHistory) (on : StrNo) (lines : List Line)
    (items : List Shown) → ShowsLines forms histories lines items → calls_shown on items ≤ most_of_lines on lines
lines_few forms histories on [] items shows = shown_none on items _ (ap (numbers_on on) shows)
lines_few forms histories on (line ∷ lines) items shows =
    let rest = shows.1.1 in
    omega (
      arith,
      sum_by-cons (most_on on) line lines,
      shown_both on items shows.1.0 rest.0 rest.2,
      act_few shows.0 _ line.by on line.on line.retry line.act shows.1.0 rest.3,
      lines_few forms histories on lines rest.0 rest.4,
    )

-- ---- the closing

-- a closing makes one call at most
pub closing_few : (form : StrForm) (calls : List AnyCall) (conn : ConnId) (on at : StrNo) (before items : List Shown)
    → ShowsClosing form calls conn at before items → calls_shown on items ≤ cond (at.0 == on.0) 1 0
closing_few form calls conn on at before items shows = grind (arith, runs_few, shown_none)

-- the closings of structures from one on make one call at most, and none on those before it
pub closings_few : (histories : List AnyHistory) (conn : ConnId) (on : StrNo) (first : ℕ) (forms : List StrForm)
    (before items : List Shown) → ShowsClosings histories conn first forms before items
    → calls_shown on items ≤ cond (nat_le first on.0) 1 0
closings_few histories conn on first [] before items shows = shown_none on items _ (ap (numbers_on on) shows)
closings_few histories conn on first (form ∷ forms) before items (here, (others, split, shows, more)) = add
    (closing_few form (calls_on histories (record { 0 = first })) conn on (record { 0 = first }) before here shows)
    (closings_few histories conn on (first + 1) forms before others more) (shown_both on items here others split)
  where
    add : {one more all : ℕ} → one ≤ cond (first == on.0) 1 0 → more ≤ cond (nat_le (first + 1) on.0) 1 0
        → all ≡ one + more → all ≤ cond (nat_le first on.0) 1 0
    add few rest both = grind (arith, nat_tests)

closings_one : (histories : List AnyHistory) (conn : ConnId) (on : StrNo) (forms : List StrForm)
    (before items : List Shown) → ShowsClosings histories conn 0 forms before items → calls_shown on items ≤ 1
closings_one histories conn on forms before items shows =
    let few = closings_few histories conn on 0 forms before items shows in grind arith

-- ---- a caller

-- how many calls the closing of a caller makes on a structure at most: the operator has none
abbrev pub most_at_end : ℕ → ℕ
most_at_end conn = cond (conn == 0) 0 1

module _ (script : Script) (histories : List AnyHistory) (conn : ConnId) (on : StrNo) (items : List Shown) where
  -- the items show no more calls than the lines and the closing make
  abbrev AreFew : Type 0
  AreFew = calls_shown on items ≤ most_of_lines on (lines_of script conn) + most_at_end conn.0

  -- a caller whose work is done
  pub follows_few : Follows script histories conn items → AreFew
  follows_few follows = omega (
    arith,
    shown_both on items follows.during follows.after follows.shows,
    lines_few script.structures histories on (lines_of script conn) follows.during follows.lines,
    at_end (conn.0 == 0) follows.closings,
  )
    where
      at_end : (b : Bool) → MatchBool b (follows.after ≡ []) (ShowsClosings histories conn
          0 script.structures follows.during follows.after) → calls_shown on follows.after ≤ cond b 0 1
      at_end true none = shown_none on follows.after _ (ap (numbers_on on) none)
      at_end false closings = closings_one histories conn on script.structures follows.during follows.after closings

  -- a caller that stops at a full journal, in the work of a line, in its closing, or in either
  stops_in_line_few : (full : StrNo) → StopsInLine script histories conn items full → AreFew
  stops_in_line_few full stops =
      let line : Line = stops.line in
      let same : full.0 == on.0 ≡ line.on.0 == on.0 = sym (ap (λ (at : StrNo). at.0 == on.0) stops.there) in
      omega (
        arith,
        shown_both on items stops.during stops.last stops.shows,
        lines_few script.structures histories on stops.before stops.during stops.played,
        runs_few stops.form.kind (call_of line.act) _ conn on full (line.on.0 == on.0) same _ stops.last
            (inr stops.stopped),
        ap (most_of_lines on) stops.lines ∙ sum_by-append (most_on on) stops.before (line ∷ stops.later),
        sum_by-cons (most_on on) line stops.later,
      )

  stops_in_closing_few : (full : StrNo) → StopsInClosing script histories conn items full → AreFew
  stops_in_closing_few full stops = omega (
    arith,
    shown_both on items stops.during stops.after stops.shows,
    lines_few script.structures histories on (lines_of script conn) stops.during stops.lines,
    closings_one histories conn on (take full.0 script.structures) stops.during stops.after stops.closings,
    is_connector,
  )
    where
      is_connector : most_at_end conn.0 ≡ 1
      is_connector = grind (arith, nat_tests, stops.connector)

  pub stops_few : (full : StrNo)
      → StopsInLine script histories conn items full ⊎ StopsInClosing script histories conn items full → AreFew
  stops_few full (inl stops) = stops_in_line_few full stops
  stops_few full (inr stops) = stops_in_closing_few full stops
