-- A report that shows histories, whose tests tell what stood, shows numbers of at most 64 bits.
use Rattle.run_laws.proofs.Imports.{◌≡◌, ℕ, zero, suc, ◌+◌, ◌*◌, ◌≤◌, ◌<◌, ◌&&◌, ◌^◌, nat_lt, List, [], ◌∷◌, ◌++◌, length, Option, Some, slice_get, sym, subst, arith, nat_tests, slice_get_within, get_within, Kind, StrForm, ConnId, StrNo, Step, AnyHistory, AnyAsk, Act, Line, Script, Shown, Transcript, step_after, AnyCall, any_length, Runs, ShowsAct, ShowsLines, ShowsClosing, ShowsClosings, Follows, IsHistoryOf, ShowsHistories, Reading, ShowsNumbers, IsReading, report_of, MarksFacilities, AgentEnd, sum_by, Bool, if◌then◌else◌, pow-suc, numbers_from, true, false, sum_by-cons}
use Rattle.run_laws.proofs.{Histories.legal_point, Sizes.short_at}

-- ---- words

-- what a bit adds at its place
abbrev worth : (ℕ → Bool) → ℕ → ℕ
worth bits k = if bits k then 2 ^ k else 0

worth_most : (b : Bool) (n : ℕ) → (if b then n else 0) ≤ n
worth_most true n = omega arith
worth_most false n = omega arith

-- the bits from a place on
bits_below : (bits : ℕ → Bool) (first n : ℕ) → sum_by (worth bits) (numbers_from first n) + 2 ^ first ≤ 2 ^ (first + n)
bits_below bits first zero = let same : first + 0 ≡ first = omega arith in rw same (omega arith)
bits_below bits first (suc n) =
    let later : first + suc n ≡ first + 1 + n = omega arith in
    let next : first + 1 ≡ suc first = omega arith in
    let double : 2 ^ (first + 1) ≡ 2 ^ first * 2 = rw next (pow-suc 2 first) in
    let sum = sum_by-cons (worth bits) first (numbers_from (first + 1) n) in
    let more = bits_below bits (first + 1) n in
    rw later (omega (arith, sum, double, more, worth_most (bits first) (2 ^ first)))

-- ---- where tests are

-- a test is at a structure, and a word that a test shows begins within the vector
abbrev IsPlaced : List StrForm → Shown → Type 0
IsPlaced forms (Shown.Test place index bit at) = (form : StrForm) × (slice_get forms place.0 ≡ Some form)
IsPlaced forms (Shown.Word place word bits at) =
    (form : StrForm) × (slice_get forms place.0 ≡ Some form) × (32 * word < form.vector)
IsPlaced forms _ = Unit {0}

abbrev ArePlaced : List StrForm → List Shown → Type 0
ArePlaced forms [] = Unit {0}
ArePlaced forms (item ∷ items) = IsPlaced forms item × ArePlaced forms items

placed-append : (forms : List StrForm) (xs ys : List Shown) → ArePlaced forms xs → ArePlaced forms ys
    → ArePlaced forms (xs ++ ys)
placed-append forms [] ys h k = k
placed-append forms (x ∷ xs) ys h k = (h.0, placed-append forms xs ys h.1 k)

placed_at : (forms : List StrForm) (items : List Shown) (k : ℕ) (item : Shown) → ArePlaced forms items
    → slice_get items k ≡ Some item → IsPlaced forms item
placed_at forms [] k item h e = grind arith
placed_at forms (x ∷ items) zero item h e = let same : x ≡ item = cc in subst (IsPlaced forms) same h.0
placed_at forms (x ∷ items) (suc k) item h e = placed_at forms items k item h.1 e

module _ (forms : List StrForm) where
  runs_placed : (k : Kind) (asked : Option AnyAsk) (calls : List AnyCall) (by : ConnId) (on : StrNo) (now : Step)
      (items : List Shown) → Runs k asked calls by on now items → ArePlaced forms items
  runs_placed k asked calls by on now [] runs = tt
  runs_placed k asked calls by on now (Shown.Call place number ∷ items) runs =
      grind (arith, runs_placed k asked calls by on (step_after now runs.0) items runs.3)
  runs_placed k asked calls by on now (_ ∷ items) runs = absurd runs

  act_placed : (form : StrForm) (calls : List AnyCall) (by : ConnId) (on : StrNo) (retry : ℕ) (done : Act)
      (items : List Shown) → slice_get forms on.0 ≡ Some form → ShowsAct form calls by on retry done items
      → ArePlaced forms items
  act_placed form calls by on retry _ items known shows = grind (arith, runs_placed, nat_tests)

  lines_placed : (histories : List AnyHistory) (lines : List Line) (items : List Shown)
      → ShowsLines forms histories lines items → ArePlaced forms items
  lines_placed histories [] items shows = subst (ArePlaced forms) (sym shows) tt
  lines_placed histories (line ∷ lines) items (form, (first, (others, known, split, shows, more))) =
      grind (arith, act_placed, placed-append, lines_placed histories lines others more)

  closing_placed : (form : StrForm) (calls : List AnyCall) (conn : ConnId) (on : StrNo) (before items : List Shown)
      → ShowsClosing form calls conn on before items → ArePlaced forms items
  closing_placed form calls conn on before items shows = grind (arith, runs_placed)

  closings_placed : (histories : List AnyHistory) (conn : ConnId) (on : ℕ) (more : List StrForm)
      (before items : List Shown) → ShowsClosings histories conn on more before items → ArePlaced forms items
  closings_placed histories conn on [] before items shows = subst (ArePlaced forms) (sym shows) tt
  closings_placed histories conn on (form ∷ more) before items (first, (others, split, shows, behind)) =
      subst (ArePlaced forms) (sym split) (placed-append forms first others (closing_placed form _ conn _ before first
      shows) (closings_placed histories conn (on + 1) more before others behind))

follows_placed : (script : Script) (histories : List AnyHistory) (conn : ConnId) (items : List Shown)
    → Follows script histories conn items → ArePlaced script.structures items
follows_placed script histories conn items follows = grind (arith, placed-append, lines_placed, closings_placed)

-- ---- what tests show

module _ (limit : ℕ) (script : Script) (reading : Reading) (shows : ShowsHistories limit script reading.histories
    reading.transcripts) (done : (c : ℕ) (transcript : Transcript) → slice_get reading.transcripts c ≡ Some transcript
    → transcript.end ≡ AgentEnd.Done) (short : length (report_of script reading) < 2 ^ 64) where
  history_at : (x : ℕ) (form : StrForm) → slice_get script.structures x ≡ Some form
      → (entries : AnyHistory) × (slice_get reading.histories x ≡ Some entries) × IsHistoryOf script form entries
  history_at x form known =
      let within = slice_get_within script.structures x form known in
      let its = get_within reading.histories x (omega (arith, within, shows.structures)) in
      (its.0, its.1, shows.histories_right x form its.0 known its.1)

  follows_of : (c : ℕ) (transcript : Transcript) → slice_get reading.transcripts c ≡ Some transcript
      → Follows script reading.histories (record { 0 = c }) transcript.items
  follows_of c transcript there = grind arith

  numbers_at : (c k : ℕ) (transcript : Transcript) (item : Shown) → slice_get reading.transcripts c ≡ Some transcript
      → slice_get transcript.items k ≡ Some item → IsPlaced script.structures item → ShowsNumbers item
  numbers_at c k transcript (Shown.Test on index bit at) there e (form, known) =
      let it = history_at on.0 form known in
      let tells = shows.tests c transcript there k (Shown.Test on index bit at) form it.0 e known it.1 in
      let low : at ≤ any_length it.0 = legal_point form it.0 at _ _ index bit it.2.legal tells.tells in
      omega (arith, low, short_at script reading short on.0 it.0 it.1)
  numbers_at c k transcript (Shown.Word on word bits at) there e (form, known, inside) =
      let it = history_at on.0 form known in
      let tells = shows.tests c transcript there k (Shown.Word on word bits at) form it.0 e known it.1 in
      let first = tells.each 0 (omega arith) (omega (arith, inside)) in
      let low : at ≤ any_length it.0 = grind (arith, legal_point) in (
        omega (arith, tells.made, bits_below (λ j. nat_lt (32 * word + j) form.vector && tells.bits j) 0 32),
        omega (arith, low, short_at script reading short on.0 it.0 it.1),
      )
  numbers_at c k transcript _ there e placed = tt

  -- what shows histories, with every caller's work done, is a reading
  pub is_reading : ((x : ℕ) (entries : AnyHistory) → slice_get reading.histories x ≡ Some entries
      → MarksFacilities entries) → IsReading script reading
  is_reading facilities = grind (arith, follows_of, numbers_at, placed_at, follows_placed)
