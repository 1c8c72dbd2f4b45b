-- No history is longer than the lines of the script and the closings make it.
use Rattle.run_laws.proofs.Imports.{◌≡◌, ℕ, zero, suc, ◌+◌, ◌≤◌, ◌<◌, List, length, Option, Some, None, slice_get, refl, ap, subst, arith, length-map, nat_tests, slice_get_within, get_within, ConnId, StrNo, AnyHistory, Line, Script, AgentEnd, Shown, Transcript, AnyCall, any_calls, calls_of, calls_on, length_of, own_calls, AgreesWith, lines_of, length_calls, EndsRight, ShowsHistories, IsWithinScript, most_of_lines, most_entries, ◌==◌, [], ◌∷◌, filter, sum_by, All, not, All-filter, filter_passes, length-filter_both, sum_by-filter_both, filter_swap, filter_absorbed}
use Rattle.run_laws.proofs.CountLaws.{most_on, calls_shown, most_at_end, follows_few, stops_few}

-- ---- lists whose elements are shared out by their keys: what bounds each share bounds the whole

-- the elements with this key
abbrev pub share : {X : Type 0} → (X → ℕ) → ℕ → List X → List X
share key c xs = filter (λ x. key x == c) xs

-- the elements with another one
abbrev others : {X : Type 0} → (X → ℕ) → ℕ → List X → List X
others key c xs = filter (λ x. not (key x == c)) xs

-- the values at all numbers below one, added up
abbrev pub sum_below : (ℕ → ℕ) → ℕ → ℕ
sum_below more zero = 0
sum_below more (suc n) = sum_below more n + more n

-- another share is still there among the others
share_kept : {X : Type 0} (key : X → ℕ) (c n : ℕ) → c < n → (xs : List X)
    → share key c (others key n xs) ≡ share key c xs
share_kept key c n below xs = grind (arith, filter_swap, filter_absorbed, nat_tests)

-- where the greatest key is left out, each key is below it
keys_below : {X : Type 0} (key : X → ℕ) (n : ℕ) (xs : List X) → All (λ x. key x < suc n) xs
    → All (λ x. key x < n) (others key n xs)
keys_below key n xs keys k d within =
    let low = All-filter (λ x. not (key x == n)) (λ x. key x < suc n) xs keys k d within in
    let other = filter_passes (λ x. not (key x == n)) xs k d within in
    grind (arith, nat_tests)

-- where each share of a list is no longer than the sum over another list's share, and so many more, the list is no
-- longer than the sum over the other list, and all of these
pub shares_bound : {X Y : Type 0} (key : X → ℕ) (of f : Y → ℕ) (more : ℕ → ℕ) (n : ℕ) (xs : List X) (ys : List Y)
    → All (λ x. key x < n) xs → ((c : ℕ) → c < n → length (share key c xs) ≤ sum_by f (share of c ys) + more c)
    → length xs ≤ sum_by f ys + sum_below more n
shares_bound key of f more zero [] ys keys each = omega arith
shares_bound key of f more zero (x ∷ xs) ys keys each = absurd (omega (arith, keys 0 x (omega arith)))
shares_bound key of f more (suc n) xs ys keys each = grind (
  arith,
  keys_below,
  share_kept,
  length-filter_both,
  sum_by-filter_both,
  shares_bound key of f more n (others key n xs) (others of n ys) (keys_below key n xs keys) (λ c below. let mine =
      share_kept key c n below xs in let its = share_kept of c n below ys in rw (mine, its) (each c (omega arith))),
)

-- ---- calls

-- however a caller's work ended, its items show its own calls, and no more than its lines and its closing make
ends_few : (limit : ℕ) (script : Script) (histories : List AnyHistory) (conn : ConnId) (on : StrNo)
    (items : List Shown) (end : AgentEnd) → EndsRight limit script histories conn items end → (AgreesWith
    histories conn items) × (calls_shown on items ≤ most_of_lines on (lines_of script conn) + most_at_end conn.0)
ends_few limit script histories conn on items AgentEnd.Done right =
    (right.agrees, follows_few script histories conn on items right)
ends_few limit script histories conn on items (AgentEnd.JournalFull full) right =
    (right.agrees, stops_few script histories conn on items full right.at)
ends_few limit script histories conn on items (AgentEnd.NoMemory cause) right = absurd right

-- each connector departs once, the operator never
closings_sum : (n : ℕ) → sum_below most_at_end (suc n) ≡ n
closings_sum zero = refl
closings_sum (suc n) = grind (arith, nat_tests, closings_sum n)

module _ (limit : ℕ) (script : Script) (histories : List AnyHistory) (transcripts : List Transcript)
    (shows : ShowsHistories limit script histories transcripts) (on : StrNo) where
  -- the calls of one caller
  own_few : (c : ℕ) → c < suc (length script.connectors) → on.0 < length histories
      → length (own_calls (calls_on histories on) (record { 0 = c }))
      ≤ most_of_lines on (lines_of script (record { 0 = c })) + most_at_end c
  own_few c low within =
      let conn : ConnId = record { 0 = c } in
      let own : List AnyCall = own_calls (calls_on histories on) conn in
      let its = get_within transcripts c (omega (arith, low, shows.callers)) in
      let few = ends_few limit script histories conn on its.0.items its.0.end (shows.ends c its.0 its.1) in
      let same : calls_shown on its.0.items ≡ length own = grind (arith, length-map) in
      omega (arith, few.1, same)

  -- the calls of all callers, and the marks before them
  history_few : (found : Option AnyHistory) → slice_get histories on.0 ≡ found
      → length_of found ≤ most_entries script on
  history_few None there = omega arith
  history_few (Some entries) there =
      let within : on.0 < length histories = slice_get_within histories on.0 entries there in
      let form = get_within script.structures on.0 (omega (arith, within, shows.structures)) in
      let right = shows.histories_right on.0 form.0 entries form.1 there in
      let calls : calls_on histories on ≡ any_calls entries = ap calls_of there in
      let connectors : ℕ = length script.connectors in
      let few : length (any_calls entries) ≤ most_of_lines on script.lines + sum_below most_at_end (suc connectors) =
      shares_bound (λ (call : AnyCall). call.by.0) (λ (line : Line). line.by.0) (most_on on) most_at_end
      (suc connectors) (any_calls entries) script.lines (λ k d low. omega (arith, right.callers k d low))
      (λ c low. subst (λ (cs : List AnyCall). length (own_calls cs (record { 0 = c }))
      ≤ most_of_lines on (lines_of script (record { 0 = c })) + most_at_end c) calls (own_few c low within)) in
      omega (arith, few, closings_sum connectors, length_calls form.0 entries right.legal)

pub within_script : (limit : ℕ) (script : Script) (histories : List AnyHistory) (transcripts : List Transcript)
    → ShowsHistories limit script histories transcripts → IsWithinScript script histories
within_script limit script histories transcripts shows on =
    history_few limit script histories transcripts shows on (slice_get histories on.0) refl
