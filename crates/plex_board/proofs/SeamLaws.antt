-- Where a call of a history stands: the entries up to its number are the next ones of those up to the number of the
-- call before it.
use Rattle.plex_board.proofs.Imports.{◌≡◌, ℕ, zero, suc, ◌<◌, ◌≤◌, ◌⊎◌, inl, inr, List, [], ◌∷◌, ◌++◌, length, take, drop, map, fold, refl, sym, ap, subst, ◌∙◌, arith, append_assoc, Contains, append_cancel_left, fold_push, map-append, map-map, take-append-drop, take-append_seam, take-map, drop-map, drop-append_seam, StrForm, CfId, Telling, Ask, Entry, Meaning, told_of, Call, Turn, calls, IsLegal, after_turn, by_turns, calls-turn, call_added, IsMade, call_made, legal_none, legal_turn, length-turn, altered_caches, queued_lists, lock_meaning, AnyAsk, AnyHistory, AnyCall, any_call, any_calls, any_length, next_by, told_by, down_of, IsAnyLegal, AreAnyAsTold, IsAnyPoint, Rising, any_take, any_next, any_told, any_numbers, end_of, last_number}
use Rattle.plex_board.proofs.ToldLaws.{AreAsTold, front_exact, run_of}

-- ---- lists

last_cases : {X : Type 0} (xs : List X) → (xs ≡ []) ⊎ ((front : List X) × (x : X) × (xs ≡ front ++ x ∷ []))
last_cases [] = inl refl
last_cases (x ∷ xs) = elim (last_cases xs) [
  | inl none ↦ inr ([], x, ap (λ (some : List _). x ∷ some) none)
  | inr it ↦ inr (x ∷ it.0, it.1, ap (λ (some : List _). x ∷ some) it.2)
]

-- ---- the entries of one kind of structure

module _ {C R I S : Type 0} (meaning : Meaning C R I S) (of : Ask C → AnyAsk) (form : StrForm) where
  abbrev heard_of : List (Call C R) → List AnyCall
  heard_of some = map (any_call of) some

  -- calls by what their callers hear of them
  record AreHeard (some : List (Call C R)) (front more : List AnyCall) : Type 0 where
    before : List (Call C R)
    behind : List (Call C R)
    cut : some ≡ before ++ behind
    before_is : heard_of before ≡ front
    behind_is : heard_of behind ≡ more

  are_heard : (some : List (Call C R)) (front more : List AnyCall) → heard_of some ≡ front ++ more
      → AreHeard some front more
  are_heard some front more e = record {
    before = take (length front) some;
    behind = drop (length front) some;
    cut = sym (take-append-drop (length front) some);
    before_is = sym (take-map (any_call of) (length front) some) ∙ ap (take (length front)) e
        ∙ take-append_seam front more;
    behind_is = sym (drop-map (any_call of) (length front) some) ∙ ap (drop (length front)) e
        ∙ drop-append_seam front more;
  }

  -- the number of the last of some calls
  abbrev ended : List (Call C R) → ℕ
  ended some = end_of (heard_of some)

  ended_push : (some : List (Call C R)) (call : Call C R) → ended (some ++ call ∷ []) ≡ call.no
  ended_push some call = grind (arith, map-append, fold_push)

  -- the entries up to the last of some calls that a legal history begins with
  record IsFront (entries : List (Entry C R)) (front : List (Call C R)) : Type 0 where
    size : length (take (ended front) entries) ≡ ended front
    calls_are : calls (take (ended front) entries) ≡ front
    legal : IsLegal meaning form (take (ended front) entries)

  is_front : (entries : List (Entry C R)) → IsLegal meaning form entries → (front more : List (Call C R))
      → calls entries ≡ front ++ more → IsFront entries front
  is_front entries legal front more e = elim (last_cases front) [
    | inl none ↦
        subst (IsFront entries) (sym none) (record { size = refl; calls_are = refl; legal = legal_none meaning form })
    | inr it ↦
        let cut : calls entries ≡ it.0 ++ it.1 ∷ more = grind (arith, append_assoc) in
        let made : IsMade meaning form entries it.0 it.1 = call_made meaning form entries legal it.0 it.1 more cut in
        let up_to : take (ended front) entries ≡ after_turn meaning form made.began made.turn =
        grind (arith, ended_push) in
        record {
          size = grind (arith, length-turn, ended_push);
          calls_are = grind (arith, calls-turn);
          legal = subst (IsLegal meaning form) (sym up_to) (legal_turn meaning form made.began made.turn made.legal);
        }
  ]

  -- a legal history ends with its last call
  ends_with : (entries : List (Entry C R)) → IsLegal meaning form entries → ended (calls entries) ≡ length entries
  ends_with entries legal = by_turns meaning form (λ h. ended (calls h) ≡ length h) refl (
      grind (arith, calls-turn, ended_push, call_added, length-turn)) entries legal

  module _ (told : CfId → Telling) where
    -- a call is the next one of those before it
    record IsNextOne (entries before : List (Entry C R)) (call : Call C R) : Type 0 where
      next : take call.no entries ≡ next_by meaning form told before call.by call.ask
      number : call.no ≡ length (next_by meaning form told before call.by call.ask)
      answer : told_of call.no call.ask call.reply ≡ told_by meaning form told before call.by call.ask

    run_front : (entries : List (Entry C R)) → AreAsTold meaning form told entries → (front : List (Call C R))
        → IsFront entries front → take (ended front) entries ≡ run_of meaning form told front
    run_front entries all front is = front_exact meaning form told entries (ended front) is.legal all
        ∙ ap (run_of meaning form told) is.calls_are

    next_one : (entries : List (Entry C R)) → IsLegal meaning form entries → AreAsTold meaning form told entries
        → (front : List (Call C R)) (call : Call C R) (more : List (Call C R)) → calls entries ≡ front ++ call ∷ more
        → IsNextOne entries (take (ended front) entries) call
    next_one entries legal all front call more e =
        let was : IsFront entries front = is_front entries legal front (call ∷ more) e in
        let is : IsFront entries (front ++ call ∷ []) =
        is_front entries legal (front ++ call ∷ []) more (e ∙ sym (append_assoc front (call ∷ []) more)) in
        let number : ended (front ++ call ∷ []) ≡ call.no = ended_push front call in
        let up_to : take call.no entries ≡ run_of meaning form told (front ++ call ∷ []) =
        ap (λ (n : ℕ). take n entries) (sym number) ∙ run_front entries all (front ++ call ∷ []) is in
        let before : List (Entry C R) = take (ended front) entries in
        let run : before ≡ run_of meaning form told front = run_front entries all front was in
        let turn : Turn C = record { by = call.by; ask = call.ask; down = down_of meaning form told before } in
        let added : Call C R = call_added meaning form before turn in
        let next : take call.no entries ≡ after_turn meaning form before turn = grind (arith, fold_push) in
        let both : front ++ added ∷ [] ≡ front ++ call ∷ [] = ap (λ (some : List (Call C R)). some ++ added ∷ [])
        (sym was.calls_are) ∙ sym (calls-turn meaning form before turn)
        ∙ ap calls (sym next) ∙ ap (λ (n : ℕ). calls (take n entries)) (sym number) ∙ is.calls_are in
        let one : added ∷ [] ≡ call ∷ [] = append_cancel_left front (added ∷ []) (call ∷ []) both in
        let same : added ≡ call = cc in
        record { next = next; number = grind (arith, ended_push); answer = grind arith }

  -- ---- as their callers hear of them

  -- the entries up to the last of some calls that a legal history begins with
  front_on : (entries : List (Entry C R)) → IsLegal meaning form entries → (front more : List AnyCall)
      → heard_of (calls entries) ≡ front ++ more
      → (length (take (end_of front) entries) ≡ end_of front) × (heard_of (calls (take (end_of front) entries)) ≡ front)
  front_on entries legal front more e =
      let at : AreHeard (calls entries) front more = are_heard (calls entries) front more e in
      let is : IsFront entries at.before = is_front entries legal at.before at.behind at.cut in
      (grind arith, grind arith)

  -- a call of a legal history is the next one of the entries up to the call before it
  next_on : (told : CfId → Telling) (entries : List (Entry C R)) → IsLegal meaning form entries
      → AreAsTold meaning form told entries → (front : List AnyCall) (call : AnyCall) (more : List AnyCall)
      → heard_of (calls entries) ≡ front ++ call ∷ more → (P : AnyCall → Type 0)
      → ((here : Call C R) → IsNextOne told entries (take (end_of front) entries) here → P (any_call of here)) → P call
  next_on told entries legal all front call more e P then =
      let at : AreHeard (calls entries) front (call ∷ more) = are_heard (calls entries) front (call ∷ more) e in
      go at.before at.behind at.cut at.before_is at.behind_is
    where
      go : (before behind : List (Call C R)) → calls entries ≡ before ++ behind → heard_of before ≡ front
          → heard_of behind ≡ call ∷ more → P call
      go before [] cut before_is e = absurd cc
      go before (here ∷ behind) cut before_is e = grind (arith, next_one)

-- ---- histories of whatever kind

-- a call of a history is the next one of the entries up to the call before it, and is told so
pub record IsNextOf (form : StrForm) (told : CfId → Telling) (entries before : AnyHistory) (call : AnyCall) : Type 0
  where
    pub next : any_take call.no entries ≡ any_next form told before call.by call.ask
    pub number : call.no ≡ any_length (any_next form told before call.by call.ask)
    pub answer : call.told ≡ any_told form told before call.by call.ask

pub next_call : (form : StrForm) (told : CfId → Telling) (h : AnyHistory) → IsAnyLegal form h → AreAnyAsTold form told h
    → (front : List AnyCall) (call : AnyCall) (more : List AnyCall) → any_calls h ≡ front ++ call ∷ more
    → IsNextOf form told h (any_take (end_of front) h) call
next_call form told (AnyHistory.Cache entries) legal all front call more e =
    next_on altered_caches AnyAsk.Cache form told entries legal all front call more e (IsNextOf form told
    (AnyHistory.Cache entries) _) (λ here is. grind arith)
next_call form told (AnyHistory.List entries) legal all front call more e = next_on queued_lists AnyAsk.List form
    told entries legal all front call more e (IsNextOf form told (AnyHistory.List entries) _) (λ here is. grind arith)
next_call form told (AnyHistory.Lock entries) legal all front call more e = next_on lock_meaning AnyAsk.Lock form
    told entries legal all front call more e (IsNextOf form told (AnyHistory.Lock entries) _) (λ here is. grind arith)

-- the entries up to the last of some calls that a history begins with
pub record IsFrontOf (h : AnyHistory) (front : List AnyCall) : Type 0 where
  pub size : any_length (any_take (end_of front) h) ≡ end_of front
  pub calls_are : any_calls (any_take (end_of front) h) ≡ front

pub front_of : (form : StrForm) (h : AnyHistory) → IsAnyLegal form h → (front more : List AnyCall)
    → any_calls h ≡ front ++ more → IsFrontOf h front
front_of form (AnyHistory.Cache entries) legal front more e =
    let is =
    front_on altered_caches AnyAsk.Cache form entries legal front more e in record { size = is.0; calls_are = is.1 }
front_of form (AnyHistory.List entries) legal front more e =
    let is =
    front_on queued_lists AnyAsk.List form entries legal front more e in record { size = is.0; calls_are = is.1 }
front_of form (AnyHistory.Lock entries) legal front more e =
    let is =
    front_on lock_meaning AnyAsk.Lock form entries legal front more e in record { size = is.0; calls_are = is.1 }

-- a legal history ends with its last call
pub end_length : (form : StrForm) (h : AnyHistory) → IsAnyLegal form h → end_of (any_calls h) ≡ any_length h
end_length form (AnyHistory.Cache entries) legal = ends_with altered_caches AnyAsk.Cache form entries legal
end_length form (AnyHistory.List entries) legal = ends_with queued_lists AnyAsk.List form entries legal
end_length form (AnyHistory.Lock entries) legal = ends_with lock_meaning AnyAsk.Lock form entries legal

-- ---- points

-- the numbers of the calls, as their callers hear of them
abbrev pub numbers_of : List AnyCall → List ℕ
numbers_of some = map (λ call. call.no) some

pub numbers_any : (h : AnyHistory) → numbers_of (any_calls h) ≡ any_numbers h
numbers_any (AnyHistory.Cache entries) = map-map (λ (call : AnyCall). call.no) (any_call AnyAsk.Cache) (calls entries)
numbers_any (AnyHistory.List entries) = map-map (λ (call : AnyCall). call.no) (any_call AnyAsk.List) (calls entries)
numbers_any (AnyHistory.Lock entries) = map-map (λ (call : AnyCall). call.no) (any_call AnyAsk.Lock) (calls entries)

pub point_of : (h : AnyHistory) (n : ℕ) → IsAnyPoint h n → (n ≡ 0) ⊎ Contains (numbers_of (any_calls h)) n
point_of (AnyHistory.Cache entries) n point = rw (numbers_any (AnyHistory.Cache entries)) point
point_of (AnyHistory.List entries) n point = rw (numbers_any (AnyHistory.List entries)) point
point_of (AnyHistory.Lock entries) n point = rw (numbers_any (AnyHistory.Lock entries)) point

-- a number is below that of the next call, where there is one
abbrev pub IsBefore : ℕ → List AnyCall → Type 0
IsBefore n [] = Unit {0}
IsBefore n (call ∷ more) = n < call.no

in_front : (x n : ℕ) (xs : List ℕ) → Contains (x ∷ xs) n → (x ≡ n) ⊎ Contains xs n
in_front x n xs (zero, less, is) = inl is
in_front x n xs (suc k, less, is) = inr (k, (let fewer : k < length xs = omega arith in fewer), is)

-- numbers that rise are above what they rise from
above_start : (low n : ℕ) (some : List AnyCall) → Rising low some → Contains (numbers_of some) n → low < n
above_start low n [] rise there = absurd (omega (arith, there.1))
above_start low n (call ∷ some) rise there = elim (in_front call.no n (numbers_of some) there) [
  | inl here ↦ omega (arith, rise.0, here)
  | inr later ↦ grind (arith, above_start call.no n some rise.1 later)
]

-- calls that rise from what is before them rise from there
rise_from : (n low : ℕ) (some : List AnyCall) → Rising low some → IsBefore n some → Rising n some
rise_from n low [] rise before = tt
rise_from n low (call ∷ some) rise before = (before, rise.1)

end_above : (low : ℕ) (front more : List AnyCall) → Rising low (front ++ more) → low ≤ fold last_number low front
end_above low [] more rise = omega arith
end_above low (call ∷ front) more rise = grind (arith, end_above call.no front more rise.1)

at_end : (low n : ℕ) (front more : List AnyCall) → Rising low (front ++ more) → (n ≡ low) ⊎ Contains
    (numbers_of (front ++ more)) n → fold last_number low front ≤ n → IsBefore n more → n ≡ fold last_number low front
at_end low n [] more rise (inl same) least before = same
at_end low n [] more rise (inr there) least before =
    absurd (omega (arith, above_start n n more (rise_from n low more rise before) there))
at_end low n (call ∷ front) more rise (inl same) least before =
    absurd (omega (arith, rise.0, same, least, end_above call.no front more rise.1))
at_end low n (call ∷ front) more rise (inr there) least before =
    elim (in_front call.no n (numbers_of (front ++ more)) there) [
      | inl here ↦ at_end call.no n front more rise.1 (inl (sym here)) least before
      | inr later ↦ at_end call.no n front more rise.1 (inr later) least before
    ]

-- a point that isn't before the last of some calls, but before the next one, is the number of the last
pub point_end : (h : AnyHistory) (n : ℕ) (front more : List AnyCall) → Rising 0 (any_calls h) → IsAnyPoint h n
    → any_calls h ≡ front ++ more → end_of front ≤ n → IsBefore n more → n ≡ end_of front
point_end h n front more rise point e least before = grind (arith, at_end, point_of)
