-- A transcript that follows a script tells, for each structure, that the caller's calls there are its works.
use Rattle.run_laws.proofs.Imports.{◌≡◌, ℕ, ◌+◌, ◌<◌, ◌==◌, Bool, true, false, List, [], ◌∷◌, ◌++◌, map, filter, cond, Option, Some, inl, inr, suc, take, drop, length, slice_get, refl, sym, ap, subst, ◌∙◌, arith, append_assoc, append-nil, append_cancel_left, map-append, take-append-drop, MatchBool, nat_tests, filter_map-append, Kind, StrForm, ConnId, StrNo, Told, Step, AnyHistory, AnyAsk, Act, Line, Script, Shown, first_step, step_after, asked_by, call_of, AnyCall, call_numbered, calls_on, IsHeard, Runs, ShowsAct, ShowsLines, ShowsClosing, ShowsClosings, Follows, lines_of, is_linked_by, number_on, numbers_on, nat_le, every_front, every_back}
use Rattle.std.proofs.lemmas.List.{take_all, take-map, take-append-le}
use Rattle.run_laws.proofs.CountLaws.{none_shown, act_runs, act_few, closing_few, closings_few}
use Rattle.run_laws.proofs.{Heard.AreHeard, Heard.numbers_of, Works.Work, Works.work_of, Works.closing, Works.works, Works.Consumes, Works.Plays}

-- ---- one line

-- what is heard under a call's number is the call
heard_is : (calls : List AnyCall) (by : ConnId) (asked : Option AnyAsk) (number : ℕ) (told : Told) (call : AnyCall)
    → IsHeard calls by asked number told → number ≡ call.no → call_numbered call.no calls ≡ Some call
    → (asked ≡ Some call.ask) × (told ≡ call.told)
heard_is calls by asked number told call is same found = grind arith

own_call : (on place : StrNo) (number : ℕ) (items : List Shown) → place ≡ on
    → numbers_on on (Shown.Call place number ∷ items) ≡ number ∷ numbers_on on items
own_call on place number items is = let here : place.0 == on.0 ≡ true = grind (arith, nat_tests) in rw here refl

-- the calls whose numbers a line's items show are what it asks
runs_consume : (kind : Kind) (line : Option AnyAsk) (calls : List AnyCall) (by : ConnId) (on : StrNo) (now : Step)
    (items : List Shown) (mine : List AnyCall) → Runs kind line calls by on now items
    → numbers_on on items ≡ numbers_of mine → AreHeard calls mine → Consumes kind line now mine
runs_consume kind line calls by on now [] [] runs numbers each = runs
runs_consume kind line calls by on now [] (call ∷ mine) runs numbers each = absurd cc
runs_consume kind line calls by on now (Shown.Call place number ∷ items) [] runs numbers each =
    absurd (let wrong : number ∷ numbers_on on items ≡ [] = sym (own_call on place number items runs.1) ∙ numbers in cc)
runs_consume kind line calls by on now (Shown.Call place number ∷ items) (call ∷ mine) runs numbers each =
    let both : number ∷ numbers_on on items ≡ call.no ∷ numbers_of mine = grind (arith, own_call) in
    let is = heard_is calls by (asked_by kind line now) number runs.0 call runs.2 (cc) each.0 in (
    grind (
      arith,
      runs_consume kind line calls by on (step_after now call.told) items mine
          (subst (λ (t : Told). Runs kind line calls by on (step_after now t) items) is.1 runs.3) (cc) each.1,
    ))
runs_consume kind line calls by on now (_ ∷ items) mine runs numbers each = absurd runs

none_mine : (mine : List AnyCall) (numbers : List ℕ) → numbers ≡ [] → numbers ≡ numbers_of mine → mine ≡ []
none_mine [] numbers none same = refl
none_mine (call ∷ mine) numbers none same = absurd (cc)

act_consumes : (form : StrForm) (calls : List AnyCall) (by : ConnId) (on : StrNo) (retry : ℕ)
    (done : Act) (items : List Shown) (mine : List AnyCall) → ShowsAct form calls by on retry done items → numbers_on
    on items ≡ numbers_of mine → AreHeard calls mine → Consumes form.kind (call_of done) (first_step done retry) mine
act_consumes form calls by on retry done items mine shows numbers each =
    grind (arith, act_runs, runs_consume, none_mine)

act_elsewhere : (form : StrForm) (calls : List AnyCall) (by : ConnId) (on other : StrNo) (retry : ℕ) (done : Act)
    (items : List Shown) → on.0 == other.0 ≡ false → ShowsAct form calls by on retry done items
    → numbers_on other items ≡ []
act_elsewhere form calls by on other retry done items apart shows =
    none_shown other items (rw apart at (act_few form calls by other on retry done items shows))

-- ---- lines one after another

-- two parts of a list of calls, by their numbers
pub record Parts (own : List AnyCall) (xs ys : List ℕ) : Type 0 where
  pub front : List AnyCall
  pub back : List AnyCall
  pub whole : own ≡ front ++ back
  pub first : xs ≡ numbers_of front
  pub second : ys ≡ numbers_of back

parts_of : (own : List AnyCall) (xs ys : List ℕ) → xs ++ ys ≡ numbers_of own → Parts own xs ys
parts_of own xs ys e =
    let n = length xs in
    let front = take n own in
    let back = drop n own in
    let first : xs ≡ numbers_of front = sym (take_all n xs (omega arith)) ∙ sym (take-append-le n xs ys (omega arith))
    ∙ ap (take n) e ∙ take-map (λ (call : AnyCall). call.no) n own in
    record {
      front = front;
      back = back;
      whole = sym (take-append-drop n own);
      first = first;
      second = append_cancel_left xs ys (numbers_of back) (e ∙ ap numbers_of (sym (take-append-drop n own)) ∙ map-append
          (λ (call : AnyCall). call.no) front back ∙ ap (λ (ns : List ℕ). ns ++ numbers_of back) (sym first));
    }

-- a caller's lines at a structure
abbrev pub lines_at : StrNo → List Line → List Line
lines_at on lines = filter (λ line. line.on.0 == on.0) lines

module _ (forms : List StrForm) (histories : List AnyHistory) (on : StrNo) (form : StrForm)
    (known : slice_get forms on.0 ≡ Some form) where
  abbrev there : List AnyCall
  there = calls_on histories on

  -- the works of lines, and others behind them
  lines_play : (lines : List Line) (items : List Shown) (own : List AnyCall) (later : List ℕ) (last : List Work)
      → ShowsLines forms histories lines items → numbers_on on items ++ later ≡ numbers_of own → AreHeard there own
      → ((rest : List AnyCall) → later ≡ numbers_of rest → AreHeard there rest → Plays form.kind last rest)
      → Plays form.kind (map work_of (lines_at on lines) ++ last) own
  lines_play [] items own later last shows numbers each behind = grind (arith, numbers_of)
  lines_play (line ∷ lines) items own later last (form', (first, (others, known', split, shows, more))) numbers each
      behind = by_place (line.on.0 == on.0) refl (λ rest same hearing. lines_play lines others rest later last more same
      hearing behind)
    where
      parted : numbers_on on first ++ (numbers_on on others ++ later) ≡ numbers_of own
      parted = grind (arith, append_assoc, filter_map-append)

      by_place : (b : Bool) → line.on.0 == on.0 ≡ b → ((rest : List AnyCall) → numbers_on on others ++ later
          ≡ numbers_of rest → AreHeard there rest → Plays form.kind (map work_of (lines_at on lines) ++ last) rest)
          → Plays form.kind (map work_of (cond b (line ∷ lines_at on lines) (lines_at on lines)) ++ last) own
      by_place true same goes_on =
          let place : line.on.0 ≡ on.0 = grind (arith, nat_tests) in
          let is : line.on ≡ on = ap (λ (n : ℕ). (let it : StrNo = record { 0 = n } in it)) place in
          let one : Some form' ≡ Some form = sym known' ∙ (ap (λ (n : ℕ). slice_get forms n) place ∙ known) in
          let same_form : form' ≡ form = cc in
          let parts = parts_of own (numbers_on on first) (numbers_on on others ++ later) parted in
          let hearing : AreHeard there (parts.front ++ parts.back) = subst (AreHeard there) parts.whole each in
          let here : ShowsAct form there line.by on line.retry line.act first = grind arith in
          inr (grind (arith, act_consumes, every_front, every_back))
      by_place false apart goes_on = grind (arith, act_elsewhere, parted)

-- ---- the departure

-- a closing shows nothing of another structure
closing_elsewhere : (form : StrForm) (calls : List AnyCall) (conn : ConnId) (on other : StrNo)
    (before items : List Shown)
    → on.0 == other.0 ≡ false → ShowsClosing form calls conn on before items → numbers_on other items ≡ []
closing_elsewhere form calls conn on other before items apart h =
    none_shown other items (rw apart at (closing_few form calls conn other on before items h))

-- a closing is the last work, or nothing
closing_here : (form : StrForm) (calls : List AnyCall) (conn : ConnId) (on : StrNo) (before items : List Shown)
    (mine : List AnyCall) → ShowsClosing form calls conn on before items → numbers_on on items ≡ numbers_of mine
    → AreHeard calls mine → Plays form.kind (closing form.kind ∷ []) mine
closing_here form calls conn on before items mine h numbers each = by_link (is_linked_by calls conn on before) h
  where
    by_link : (b : Bool) → MatchBool b (Runs form.kind (closing form.kind).line calls conn on (Step.Call 0) items)
        (items ≡ []) → Plays form.kind (closing form.kind ∷ []) mine
    by_link true runs =
        inr (mine, ([], sym (append-nil mine), runs_consume _ _ calls _ on _ items mine runs numbers each, refl))
    by_link false none = inl (none_mine mine (numbers_on on items) (ap (numbers_on on) none) numbers)

-- the closings at structures from a number on show nothing of one before
closings_past : (histories : List AnyHistory) (conn : ConnId) (first : ℕ) (forms : List StrForm)
    (before items : List Shown) (other : StrNo) → ShowsClosings histories conn first forms before items
    → other.0 < first → numbers_on other items ≡ []
closings_past histories conn first forms before items other shows past =
    let apart : nat_le first other.0 ≡ false = grind (arith, nat_tests) in
    none_shown other items (rw apart at (closings_few histories conn other first forms before items shows))

-- the closings of a caller at structures from a number on: at this structure the departure alone, or nothing
closings_play : (histories : List AnyHistory) (conn : ConnId) (first : ℕ) (forms : List StrForm)
    (before items : List Shown) (on : StrNo) (form : StrForm) (mine : List AnyCall) → ShowsClosings histories
    conn first forms before items → ((k : ℕ) (f : StrForm) → slice_get forms k ≡ Some f → first + k ≡ on.0 → f ≡ form)
    → numbers_on on items ≡ numbers_of mine → AreHeard (calls_on histories on) mine
    → Plays form.kind (closing form.kind ∷ []) mine
closings_play histories conn first [] before items on form mine shows forms numbers each =
    inl (none_mine mine (numbers_on on items) (ap (numbers_on on) shows) numbers)
closings_play histories conn first (f ∷ fs) before items on
    form mine (here, (others, split, shows, more)) forms numbers each = by_place (first == on.0) refl
    (λ same. closings_play histories conn (first + 1) fs before others on form mine more later same each)
  where
    at_first : StrNo
    at_first = record { 0 = first }

    parted : numbers_on on here ++ numbers_on on others ≡ numbers_of mine
    parted = sym (filter_map-append (number_on on) here others) ∙ ap (numbers_on on) (sym split) ∙ numbers

    later : (k : ℕ) (g : StrForm) → slice_get fs k ≡ Some g → first + 1 + k ≡ on.0 → g ≡ form
    later k g e same = forms (suc k) g e (omega (arith, same))

    by_place : (b : Bool) → first == on.0 ≡ b → (numbers_on on others ≡ numbers_of mine
        → Plays form.kind (closing form.kind ∷ []) mine) → Plays form.kind (closing form.kind ∷ []) mine
    by_place true same goes_on =
        let place : first ≡ on.0 = grind (arith, nat_tests) in
        let is : at_first ≡ on = ap (λ (n : ℕ). (let it : StrNo = record { 0 = n } in it)) place in
        let one : f ≡ form = forms 0 f refl (omega (arith, place)) in
        let past : numbers_on on others ≡ [] =
        closings_past histories conn (first + 1) fs before others on more (omega (arith, place)) in
        let whole : numbers_on on here ≡ numbers_of mine = grind (arith, append-nil, parted) in
        let shown_here : ShowsClosing form (calls_on histories on) conn on before here = grind arith in
        closing_here form (calls_on histories on) conn on before here mine shown_here whole each
    by_place false apart goes_on =
        let none = closing_elsewhere f (calls_on histories at_first) conn at_first on before here apart shows in
        goes_on (sym (ap (λ (ns : List ℕ). ns ++ numbers_on on others) none) ∙ parted)

-- ---- the whole

-- the calls of a caller at a structure are its works there
pub own_plays : (script : Script) (histories : List AnyHistory) (conn : ConnId) (items : List Shown)
    (on : StrNo) (form : StrForm) (own : List AnyCall) → Follows script histories conn items
    → slice_get script.structures on.0 ≡ Some form → numbers_on on items ≡ numbers_of own → AreHeard
    (calls_on histories on) own → Plays form.kind (works form.kind (lines_at on (lines_of script conn))) own
own_plays script histories conn items on form own follows known numbers each = lines_play script.structures histories
    on form known (lines_of script conn) follows.during own (numbers_on on follows.after) (closing form.kind ∷ [])
    follows.lines (grind (arith, filter_map-append)) each (by_caller (conn.0 == 0) follows.closings)
  where
    by_caller : (b : Bool) → MatchBool b (follows.after ≡ []) (ShowsClosings histories conn 0 script.structures
        follows.during follows.after) → (rest : List AnyCall) → numbers_on on follows.after ≡ numbers_of rest
        → AreHeard (calls_on histories on) rest → Plays form.kind (closing form.kind ∷ []) rest
    by_caller true none rest same hearing =
        inl (none_mine rest (numbers_on on follows.after) (ap (numbers_on on) none) same)
    by_caller false shows rest same hearing = closings_play histories conn 0 script.structures follows.during
        follows.after on form rest shows (λ k f e is. grind arith) same hearing
