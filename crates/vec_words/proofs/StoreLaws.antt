-- What the stores of one call do to the readings of a log.
use Rattle.vec_words.proofs.Imports.{◌≡◌, ◌≢◌, ℕ, ◌+◌, ◌<◌, ◌≤◌, true, false, Bool, List, [], ◌∷◌, ◌++◌, length, take, Some, refl, sym, ap, ◌∙◌, subst, ⊎_elim, arith, append-nil, append_assoc, All, Contains, slice_get, cases_eq, take_more, map-append, get_or-take, length-take-le, slice_get_within, get_or_from_slice_get, slice_get-get_or, All-nil, All-cons, All-head, All-tail, All-push, All-pop, All-contains, all_pairs_push, bits_at, HasStore, Logged, Stored, Place, words_of, word_number, steps_of, commits_of, SeatSeen, IsAt, IsWithin, IsSpared, store_of, stores_of, StoresEach}
use Rattle.vec_words.proofs.Logs.{bits-other, bits-above, bits-here, has_store-store}
use Rattle.vec_words.proofs.{Commits.commits_of-append, Places.word_number-same}

-- a place is this word, or it isn't
at_cases : (conn word : ℕ) (place : Place) (G : Type 0) → (IsAt conn word place → G) → (¬ IsAt conn word place → G)
    → G
at_cases conn word place G here apart = grind (arith, ⊎_elim, cases_eq)

-- places that are apart have words that are apart
number-apart : (conns len conn word : ℕ) (place : Place) → 0 < conn → word < words_of len → IsWithin conns len place
    → ¬ IsAt conn word place → word_number len place.conn.0 place.word ≢ word_number len conn word
number-apart conns len conn word place positive below within apart e =
    apart (word_number-same len place.conn.0 conn place.word word within.0 positive within.2 below e)

module _ {D : Type 0} (len : ℕ) (bits : ℕ → ℕ → ℕ) (number : ℕ) where
  abbrev made : List Place → List (Logged D)
  made places = stores_of len bits number places

  -- one store, and then the others
  made-cons : (log : List (Logged D)) (p : Place) (ps : List Place)
      → (log ++ store_of len bits number p ∷ []) ++ made ps ≡ log ++ made (p ∷ ps)
  made-cons log p ps = append_assoc log (store_of len bits number p ∷ []) (made ps)

  -- below their number the bits stay
  pub stores_of-below : (log : List (Logged D)) (places : List Place) (word k : ℕ) → k < number
      → bits_at (steps_of (log ++ made places)) word k ≡ bits_at (steps_of log) word k
  stores_of-below log [] word k low = ap (λ l. bits_at (steps_of l) word k) (append-nil log)
  stores_of-below log (p ∷ ps) word k low = ap (λ l. bits_at (steps_of l) word k) (sym (made-cons log p ps))
      ∙ stores_of-below (log ++ store_of len bits number p ∷ []) ps word k low
      ∙ bits-above log (word_number len p.conn.0 p.word) (bits p.conn.0 p.word) number word k low

  no_commits : (places : List Place) → commits_of (made places) ≡ []
  no_commits [] = refl
  no_commits (p ∷ ps) = no_commits ps

  pub stores_of-commits : (log : List (Logged D)) (places : List Place)
      → commits_of (log ++ made places) ≡ commits_of log
  stores_of-commits log places = grind (arith, commits_of-append, no_commits, append-nil)

  -- from their number on a fact of a word's bits holds, where it holds of its new bits, and of the old ones where it
  -- was spared
  pub stores_of-from : (conns : ℕ) (log : List (Logged D)) (places : List Place) (conn word k : ℕ) (P : ℕ → Type 0)
      → 0 < conn → word < words_of len → number ≤ k → All (IsWithin conns len) places → P (bits conn word)
      → (IsSpared places conn word → P (bits_at (steps_of log) (word_number len conn word) k))
      → P (bits_at (steps_of (log ++ made places)) (word_number len conn word) k)
  stores_of-from conns log [] conn word k P positive below from within new old = grind (arith, append-nil, All-nil)
  stores_of-from conns log (p ∷ ps) conn word k P positive below from within new old =
      let w = word_number len conn word in
      let first = log ++ store_of len bits number p ∷ [] in
      let here : IsWithin conns len p = All-head (IsWithin conns len) p ps within in
      subst P (ap (λ l. bits_at (steps_of l) w k) (made-cons log p ps)) (stores_of-from conns first
      ps conn word k P positive below from (All-tail (IsWithin conns len) p ps within) new (λ spared. at_cases conn
      word p (P (bits_at (steps_of first) w k)) (λ at. subst P (sym (subst (λ (x : ℕ × ℕ). bits_at (steps_of
      (log ++ Stored (word_number len x.0 x.1) (bits x.0 x.1) number ∷ [])) w k ≡ bits conn word)
      (λ i. (sym at.0 i, sym at.1 i)) (bits-here log w (bits conn word) number k from))) new) (λ apart. subst P
      (sym (bits-other log (word_number len p.conn.0 p.word) (bits p.conn.0 p.word) number w k (number-apart conns
      len conn word p positive below here apart))) (old (All-cons (λ q. ¬ IsAt conn word q) p ps apart spared)))))

  -- a word that they spared has no store of their number, where it had none
  stores_of-once : (conns : ℕ) (log : List (Logged D)) (places : List Place) (conn word : ℕ)
      → 0 < conn → word < words_of len → All (IsWithin conns len) places
      → IsSpared places conn word → ¬ HasStore (steps_of log) (word_number len conn word) number
      → ¬ HasStore (steps_of (log ++ made places)) (word_number len conn word) number
  stores_of-once conns log [] conn word positive below within spared fresh h =
      fresh (subst (λ l. HasStore (steps_of l) (word_number len conn word) number) (append-nil log) h)
  stores_of-once conns log (p ∷ ps) conn word positive below within spared fresh h =
      let w = word_number len conn word in
      let v = word_number len p.conn.0 p.word in
      let here : IsWithin conns len p = All-head (IsWithin conns len) p ps within in
      let apart = All-head (λ q. ¬ IsAt conn word q) p ps spared in
      stores_of-once conns (log ++ store_of len bits number p ∷ []) ps conn word positive
      below (All-tail (IsWithin conns len) p ps within) (All-tail (λ q. ¬ IsAt conn word q) p ps spared) (λ s. ⊎_elim
      (λ (t : HasStore (steps_of log) w number). fresh t) (λ (e : (v ≡ w) × (number ≡ number)). number-apart conns
      len conn word p positive below here apart e.0) (has_store-store log v (bits p.conn.0 p.word) number w number s))
      (subst (λ l. HasStore (steps_of l) w number) (sym (made-cons log p ps)) h)

-- What a call's stores do, by what `store_changed` ensures.
module _ {D : Type 0} (conns len : ℕ) (bits : ℕ → ℕ → ℕ) (named : List Place) (before after : SeatSeen D) where
  log_is : StoresEach conns len bits named before after → (places : List Place)
      → after ≡ record before { log = before.log ++ stores_of len bits before.number places }
      → after.log ≡ before.log ++ stores_of len bits before.number places
  log_is each places e = ap (λ (s : SeatSeen D). s.log) e

  -- they leave the bits at each number below theirs
  pub stores-below : (word k : ℕ) → StoresEach conns len bits named before after → k < before.number
      → bits_at (steps_of after.log) word k ≡ bits_at (steps_of before.log) word k
  stores-below word k each low = ap (λ l. bits_at (steps_of l) word k) (log_is each each.places each.seat)
      ∙ stores_of-below len bits before.number before.log each.places word k low

  pub stores-commits : StoresEach conns len bits named before after → commits_of after.log ≡ commits_of before.log
  stores-commits each = grind (arith, log_is, stores_of-commits)

  -- From their number on, a fact of a word's bits holds where it holds of the word's new bits, and of the old ones
  -- where the word isn't named.
  pub stores-from : (conn word k : ℕ) (P : ℕ → Type 0) → StoresEach conns len bits named before after → 0 < conn
      → word < words_of len → before.number ≤ k → P (bits conn word)
      → (IsSpared named conn word → P (bits_at (steps_of before.log) (word_number len conn word) k))
      → P (bits_at (steps_of after.log) (word_number len conn word) k)
  stores-from conn word k P each positive below from new old = subst (λ l. P (bits_at (steps_of l) (word_number len
      conn word) k)) (sym (log_is each each.places each.seat)) (stores_of-from len bits before.number conns before.log
      each.places conn word k P positive below from each.within new (λ spared. old ((each.same conn word).0 spared)))

-- The stores of a list of named words, one by one.
front : {A : Type 0} (P : A → Type 0) (xs : List A) (x : A) → All P (xs ++ x ∷ []) → All P xs
front P xs x all = (All-pop P (xs ++ x ∷ []) xs (Some x) refl all).0

last : {A : Type 0} (P : A → Type 0) (xs : List A) (x : A) → All P (xs ++ x ∷ []) → P x
last P xs x all = (All-pop P (xs ++ x ∷ []) xs (Some x) refl all).1

take-next : {A : Type 0} (xs : List A) (i : ℕ) (x : A) → slice_get xs i ≡ Some x → take (i + 1) xs ≡ take i xs
    ++ x ∷ []
take-next xs i x is =
    take_more xs i x (slice_get_within xs i x is) ∙ ap (λ y. take i xs ++ y ∷ []) (get_or_from_slice_get xs i x x is)

pub within-at : (conns len : ℕ) (places : List Place) (i : ℕ) (p : Place)
    → slice_get places i ≡ Some p → All (IsWithin conns len) places → IsWithin conns len p
within-at conns len places i p is all =
    subst (IsWithin conns len) (get_or_from_slice_get places i p p is) (all i p (slice_get_within places i p is))

-- no place below this one is the word
pub spared_below : (places : List Place) (i conn word : ℕ) → i ≤ length places → ((k : ℕ) (p : Place)
    → 0 ≤ k → k < i → slice_get places k ≡ Some p → ¬ IsAt conn word p) → IsSpared (take i places) conn word
spared_below places i conn word most each k d inside = grind (arith, length-take-le, get_or-take, slice_get-get_or)

pub contains_below : (places : List Place) (i k : ℕ) (p q : Place)
    → k < i → i ≤ length places → slice_get places k ≡ Some p → IsAt q.conn.0 q.word p → Contains (take i places) q
contains_below places i k p q below most is at =
    let short = length-take-le i places most in
    let same : p ≡ q = λ j. record { conn = record { 0 = at.0 j }; word = at.1 j } in
    (k, omega (arith, short, below), get_or-take i places k q below ∙ get_or_from_slice_get places k p q is ∙ same)

module _ {D : Type 0} (conns len : ℕ) (bits : ℕ → ℕ → ℕ) (before : SeatSeen D) where
  pub each-nil : StoresEach conns len bits [] before before
  each-nil = grind (arith, append-nil, All-nil)

  -- the word wasn't named before
  each-first : (after : SeatSeen D) (named : List Place) (p : Place) → IsWithin conns len p
      → IsSpared named p.conn.0 p.word → StoresEach conns len bits named before after → StoresEach conns
      len bits (named ++ p ∷ []) before (record after { log = after.log ++ store_of len bits before.number p ∷ [] })
  each-first after named p within apart each =
      let ps = each.places in
      let store = store_of len bits before.number in
      record {
        places = ps ++ p ∷ [];
        seat = ap (λ (s : SeatSeen D). record s { log = s.log ++ store p ∷ [] }) each.seat
            ∙ ap (λ l. record before { log = l }) (append_assoc before.log (stores_of len bits before.number ps)
            (store p ∷ []) ∙ ap (λ l. before.log ++ l) (sym (map-append store ps (p ∷ []))));
        within = All-push (IsWithin conns len) ps p each.within within;
        once = all_pairs_push (λ (a b : Place). ¬ IsAt b.conn.0 b.word a) ps p each.once
            (λ k d less. (each.same p.conn.0 p.word).1 apart k d less);
        same = λ conn word. let P : Place → Type 0 = λ q. ¬ IsAt conn word q in (
          λ spared. All-push P named p ((each.same conn word).0 (front P ps p spared)) (last P ps p spared),
          λ spared. All-push P ps p ((each.same conn word).1 (front P named p spared)) (last P named p spared),
        );
      }

  -- it was
  each-again : (after : SeatSeen D) (named : List Place) (p : Place) → Contains named p
      → StoresEach conns len bits named before after → StoresEach conns len bits (named ++ p ∷ []) before after
  each-again after named p has each = record {
    places = each.places;
    seat = each.seat;
    within = each.within;
    once = each.once;
    same = λ conn word. let P : Place → Type 0 = λ q. ¬ IsAt conn word q in (
      λ spared. let all = (each.same conn word).0 spared in All-push P named p all (All-contains P named p all has),
      λ spared. (each.same conn word).1 (front P named p spared),
    );
  }

  -- a word that wasn't named has no store yet
  pub each-once : (after : SeatSeen D) (named : List Place) (p : Place) → IsWithin conns len p → IsSpared named
      p.conn.0 p.word → StoresEach conns len bits named before after → ((w : ℕ) → ¬ HasStore (steps_of before.log)
      w before.number) → ¬ HasStore (steps_of after.log) (word_number len p.conn.0 p.word) after.number
  each-once after named p within apart each fresh =
      subst (λ (s : SeatSeen D). ¬ HasStore (steps_of s.log) (word_number len p.conn.0 p.word) s.number)
      (sym each.seat) (stores_of-once len bits before.number conns before.log each.places p.conn.0 p.word
      within.0 within.2 each.within ((each.same p.conn.0 p.word).1 apart) (fresh (word_number len p.conn.0 p.word)))

  -- one step of the loop
  pub each-step : (after new : SeatSeen D) (named : List Place) (i : ℕ) (p : Place) (first : Bool)
      → slice_get named i ≡ Some p → IsWithin conns len p → StoresEach conns len bits (take i named) before after
      → (first ≡ true → IsSpared (take i named) p.conn.0 p.word
      × (new ≡ record after { log = after.log ++ store_of len bits after.number p ∷ [] })) → (first ≡ false
      → Contains (take i named) p × (new ≡ after)) → StoresEach conns len bits (take (i + 1) named) before new
  each-step after new named i p true is within each then else_ =
      let h = then refl in
      let same : after.number ≡ before.number = ap (λ (s : SeatSeen D). s.number) each.seat in
      let new_is = h.1 ∙ ap (λ n. record after { log = after.log ++ store_of len bits n p ∷ [] }) same in
      subst (λ (x : List Place × SeatSeen D). StoresEach conns len bits x.0 before x.1)
      (λ k. (sym (take-next named i p is) k, sym new_is k)) (each-first after (take i named) p within h.0 each)
  each-step after new named i p false is within each then else_ =
      let h = else_ refl in
      subst (λ (x : List Place × SeatSeen D). StoresEach conns len bits x.0 before x.1)
      (λ k. (sym (take-next named i p is) k, sym h.1 k)) (each-again after (take i named) p h.0 each)
