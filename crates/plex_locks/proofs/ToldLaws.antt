-- What is told of connectors that have worked.
use Rattle.plex_locks.proofs.Imports.{eqb-true, nat_tests, return-yes, return-no, rest_whole, lines-feed, nothing_left, lines-last, ◌≡◌, ◌+◌, ◌<◌, ◌⊎◌, ℕ, zero, suc, Bool, List, [], ◌∷◌, ◌++◌, Some, Contains, All, AllPairs, map, length, drop, drop-cons, slice_get, get_or, Result, Ok, Err, refl, sym, ap, ◌∙◌, subst, inl, ⊎_elim, arith, append_assoc, length-append, replicate, slice_index, IfOk, range_with_len, get_or-map, length-map, map-append, length-replicate, All-push, All-nil, All-head, All-contains, All-replicate, get_or-map-range_with_len, length-map-range_with_len, get_or-range_with_len, slice_get-map, slice_get_within, slice_get-get_or, get_or_from_slice_get, none-some, ConnId, Name16, StrForm, IsForm, Hold, Grant, AreCompatible, says_excl, hold, grant, reading, HandSeen, LocksSeen, new_hand, AreAll, IsOthers, HasValue, all_held, Line, Script, IsWellFormed, IsLineOf, Outcome, Contended, Raced, Done, HandTold, Locked, tasks_by, word_of, resource_of, left_by, granted_by, HasOther, IsOfOthers, AtLocks, AreIdle, IsDealt, IsReady, HasRead, HaveWorked, asked_by, asked_in, IsHandTold, IsLocked, told_of, none_told, entries_of, dones_of, all_left}

abbrev name_of : AtLocks → Name16
name_of w = w.name

abbrev hand_of : AtLocks → HandSeen
hand_of w = w.hand

abbrev by_of : AtLocks → ℕ
by_of w = w.by.0

-- ---- as the hands are dealt

range-more : (a n : ℕ) → range_with_len a (suc n) ≡ range_with_len a n ++ (a + n) ∷ []
range-more a zero = let e : a ≡ a + 0 = omega arith in ap (λ k. k ∷ []) e
range-more a (suc n) = grind (arith, range-more (a + 1) n)

mapped-more : {X : Type 0} (f : AtLocks → X) (old more : List AtLocks) (w : AtLocks) → more ≡ old ++ w ∷ []
    → map f more ≡ map f old ++ f w ∷ []
mapped-more f old more w is = ap (map f) is ∙ map-append f old (w ∷ [])

left-more : {X : Type 0} (f : AtLocks → X) (old more : List AtLocks) (w : AtLocks) (left rest all : List X)
    → more ≡ old ++ w ∷ [] → left ≡ f w ∷ rest → map f old ++ left ≡ all → map f more ++ rest ≡ all
left-more f old more w left rest all is cut whole = ap (λ l. l ++ rest) (mapped-more f old more w is)
    ∙ (append_assoc (map f old) (f w ∷ []) rest ∙ (ap (λ l. map f old ++ l) (sym cut) ∙ whole))

pub dealt-more : (connectors : List Name16) (lines : List Line) (dealt : List HandSeen) (place : ℕ)
    (left rest : List HandSeen) (old more : List AtLocks) (w : AtLocks) (name : Name16) (hand : HandSeen) (by : ConnId)
    → w ≡ record { name = name; by = by; hand = hand; tasks = tasks_by by lines; done = [] } → more ≡ old ++ w ∷ []
    → drop place connectors ≡ w.name ∷ drop (place + 1) connectors → left ≡ hand ∷ rest → by.0 ≡ place + 1
    → IsDealt connectors lines dealt place left old → IsDealt connectors lines dealt (place + 1) rest more
dealt-more connectors lines dealt place left rest old more w name hand by made is names hands number before = record {
  count = omega (arith, ap length is, length-append old (w ∷ []), before.count);
  names = grind (arith, left-more);
  hands = grind (arith, left-more);
  numbers = mapped-more by_of old more w is
      ∙ ((λ i. before.numbers i ++ numbered i ∷ []) ∙ (sym (range-more 1 place) ∙ ap (range_with_len 1) after));
  tasks = subst (All (λ (w : AtLocks). w.tasks ≡ tasks_by w.by lines)) (sym is)
      (All-push (λ (w : AtLocks). w.tasks ≡ tasks_by w.by lines) old w before.tasks
      (subst (λ (w : AtLocks). w.tasks ≡ tasks_by w.by lines) (sym made) refl));
  done = subst (All (λ (w : AtLocks). w.done ≡ [])) (sym is)
      (All-push (λ (w : AtLocks). w.done ≡ []) old w before.done (ap (λ (w : AtLocks). w.done) made));
}
  where
    numbered : w.by.0 ≡ 1 + place
    numbered = let e = ap by_of made in omega (arith, e, number)

    after : suc place ≡ place + 1
    after = omega arith

-- the first of the connectors that are left
pub first-left : (names : List Name16) (place : ℕ) (name : Name16) (w : AtLocks) → w.name ≡ name
    → slice_get names place ≡ Some name → drop place names ≡ w.name ∷ drop (place + 1) names
first-left names place name w is there =
    let low = slice_get_within names place name there in
    let cut = drop-cons names place name low in
    let here = get_or_from_slice_get names place name name there in grind arith

pub nobody-named : (names : List Name16) → length names ≡ 0 → names ≡ []
nobody-named [] none = refl
nobody-named (x ∷ xs) none = absurd (omega (arith, none))

-- ---- elements

at : {X : Type 0} (P : X → Type 0) (xs : List X) (k : ℕ) (x : X) → All P xs → slice_get xs k ≡ Some x → P x
at P xs k x all there = subst P (get_or_from_slice_get xs k x x there) (all k x (slice_get_within xs k x there))

mapped-at : {X Y : Type 0} (f : X → Y) (xs : List X) (ys : List Y) (k : ℕ) (x : X) → map f xs ≡ ys
    → slice_get xs k ≡ Some x → slice_get ys k ≡ Some (f x)
mapped-at f xs ys k x is there = grind (arith, slice_get-map)

-- an element of a map is that of an element
unmapped : {X Y : Type 0} (f : X → Y) (xs : List X) (k : ℕ) (y : Y) → slice_get (map f xs) k ≡ Some y
    → (x : X) × (slice_get xs k ≡ Some x) × (f x ≡ y)
unmapped {X} {Y} f xs k y there = grind (arith, slice_get-map, none-some)

-- what a hand was granted is among its connector's grants
granted-in : (n : ℕ) (holds : List Hold) (word : ℕ) (excl : Bool)
    → Contains (map (λ (x : Hold). grant n x.word x.excl) holds) (grant n word excl) → Contains holds (hold word excl)
granted-in n holds word excl has =
    let f : Hold → Grant = λ x. grant n x.word x.excl in
    let k = has.0 in
    let is : f (get_or holds k (hold word excl)) ≡ grant n word excl =
    sym (get_or-map f holds k (hold word excl)) ∙ has.2 in (grind (arith, length-map))

numbers-from : (first n : ℕ) (workers : List AtLocks) → length workers ≡ n
    → ((c : ℕ) (w : AtLocks) → slice_get workers c ≡ Some w → w.hand.number ≡ first + c)
    → map (λ (h : HandSeen). h.number) (map hand_of workers) ≡ range_with_len first n
numbers-from first zero [] long own = refl
numbers-from first (suc n) (w ∷ ws) long own =
    let here : w.hand.number ≡ first = omega (arith, own 0 w refl) in
    let rest = numbers-from (first + 1) n ws (omega (arith, long)) (λ c x there. omega (arith, own (suc c) x there)) in
    (λ i. here i ∷ rest i)
numbers-from first n workers long own = absurd (omega (arith, long))

tables-of : (locks : LocksSeen) (workers : List AtLocks) → ((c : ℕ) (w : AtLocks) → slice_get workers c ≡ Some w
    → w.hand.table ≡ locks.table) → All (λ (h : HandSeen). h.table ≡ locks.table) (map hand_of workers)
tables-of locks workers own k d lt = grind (arith, unmapped, slice_get-get_or)

all-left : (n : ℕ) (workers : List AtLocks) → ((c : ℕ) (w : AtLocks) → slice_get workers c ≡ Some w
    → w.hand.held ≡ left_by n [] w.done) → all_held (map hand_of workers) ≡ all_left n (dones_of (map told_of workers))
all-left n [] own = refl
all-left n (w ∷ ws) own = let rest = all-left n ws (λ c x there. own (suc c) x there) in (λ i. own 0 w refl i ++ rest i)

-- ---- connectors that have worked

module _ (script : Script) (locks : LocksSeen) (callers : ℕ) (idle : List AtLocks) (dealt : List HandSeen)
    (count : callers ≡ length script.connectors) (fresh : dealt ≡ map (new_hand locks) (range_with_len 1 callers))
    (idles : AreIdle script.connectors script.lines dealt idle) where
  pub length-idle : length idle ≡ callers
  length-idle = omega (arith, ap length idles.names, length-map idle name_of, count)

  hand-at : (c : ℕ) (w : AtLocks) → slice_get idle c ≡ Some w → w.hand ≡ new_hand locks (1 + c)
  hand-at c w there =
      let dealt_at = mapped-at hand_of idle dealt c w idles.hands there in
      let new = subst (λ (l : List HandSeen). slice_get l c ≡ Some w.hand) fresh dealt_at in
      let below = slice_get_within (map (new_hand locks) (range_with_len 1 callers)) c w.hand new in
      sym (get_or_from_slice_get (map (new_hand locks) (range_with_len 1 callers)) c w.hand w.hand new)
      ∙ get_or-map-range_with_len (new_hand locks) 1 callers c (1 + c) w.hand
      (omega (arith, below, length-map-range_with_len (new_hand locks) 1 callers)) refl

  -- a hand that did nothing is one of the words, and what it did goes with it
  pub all-ready : All (IsReady locks) idle
  all-ready k d lt = grind (arith, slice_get-get_or, hand-at, All-nil)

module _ (script : Script) (locks : LocksSeen) (callers : ℕ) (idle workers : List AtLocks) (dealt : List HandSeen)
    (some_words : locks.words ≡ entries_of script.structures) (count : callers ≡ length script.connectors)
    (fresh : dealt ≡ map (new_hand locks) (range_with_len 1 callers))
    (idles : AreIdle script.connectors script.lines dealt idle) (worked : HaveWorked locks idle workers) where
  length-workers : length workers ≡ callers
  length-workers = worked.callers ∙ length-idle script locks callers idle dealt count fresh idles

  number-at : (c : ℕ) (w : AtLocks) → slice_get workers c ≡ Some w → w.hand.number ≡ 1 + c
  number-at c w there = grind (arith, hand-at)

  ready-at : (c : ℕ) (w : AtLocks) → slice_get workers c ≡ Some w → IsReady locks w
  ready-at c w there = (worked.each c w there).2.ready

  words-at : (c : ℕ) (w : AtLocks) → slice_get workers c ≡ Some w → w.hand.words ≡ entries_of script.structures
  words-at c w there = (ready-at c w there).words ∙ some_words

  asked-at : (c : ℕ) (w : AtLocks) → slice_get workers c ≡ Some w
      → asked_by w.done ≡ asked_in (tasks_by (record { 0 = 1 + c }) script.lines)
  asked-at c w there =
      let t = worked.each c w there in
      let tasks = at (λ (w : AtLocks). w.tasks ≡ tasks_by w.by script.lines) idle c t.0 idles.tasks t.1 in
      let numbered = mapped-at by_of idle (range_with_len 1 (length idle)) c t.0 idles.numbers t.1 in
      let by : t.0.by.0 ≡ 1 + c = sym (get_or_from_slice_get (range_with_len 1 (length idle)) c t.0.by.0 0 numbered)
      ∙ get_or-range_with_len 1 (length idle) c 0 (slice_get_within idle c t.0 t.1) in
      t.2.asked ∙ (ap asked_in tasks ∙ ap (λ n. asked_in (tasks_by (record { 0 = n }) script.lines)) by)

  pub all-hands : locks.hands ≡ callers → AreAll locks (map hand_of workers)
  all-hands same = record {
    numbers = numbers-from 1 callers workers length-workers number-at ∙ ap (range_with_len 1) (sym same);
    tables = tables-of locks workers (λ c w there. (ready-at c w there).table);
  }

  module _ (words : List ℕ) (counted : length words ≡ locks.words) (values : (word : ℕ)
      → word < locks.words → HasValue (all_held (map hand_of workers)) word (slice_index words word))
      (compatible : AllPairs AreCompatible (all_held (map hand_of workers))) (read : All
      (λ (h : HandSeen). All (IsOthers (map hand_of workers) h.number) h.read) (map hand_of workers)) where
    abbrev n : ℕ
    n = entries_of script.structures

    abbrev dones : List (List Done)
    dones = dones_of (map told_of workers)

    -- what a hand read of a word, another connector was granted
    other : (c : ℕ) (w : AtLocks) (word value : ℕ) → slice_get workers c ≡ Some w → 0 < value
        → Contains w.hand.read (reading w.hand.number word value) → HasOther n dones c word (says_excl value)
    other c w word value there some_value has =
        let all = map hand_of workers in
        let reads = at (λ (h : HandSeen). All (IsOthers all h.number) h.read) all c w.hand
        read (mapped-at hand_of workers all c w refl there) in
        let r = reading w.hand.number word value in
        let o = All-contains (IsOthers all w.hand.number) w.hand.read r reads has some_value in
        let h = o.0 in
        let k = o.1.0 in
        let there' = slice_get-get_or all k h o.1.1 ∙ ap Some o.1.2 in
        let t = unmapped hand_of workers k h there' in
        let v = t.0 in
        let ready = ready-at k v t.1 in
        let own : Contains v.hand.ever (grant v.hand.number word (says_excl value)) = grind arith in
        let granted = subst (λ l. Contains l (grant v.hand.number word (says_excl value))) ready.worked.ever own in (
          k,
          v.done,
          (grind (arith, number-at)),
          mapped-at (λ (t : HandTold). t.done) (map told_of workers) dones k (told_of v) refl
              (mapped-at told_of workers (map told_of workers) k v refl t.1),
          subst (λ m. Contains (granted_by m v.done) (hold word (says_excl value))) (words-at k v t.1)
              (granted-in v.hand.number (granted_by v.hand.words v.done) word (says_excl value) granted),
        )

    others : (c : ℕ) (w : AtLocks) → slice_get workers c ≡ Some w
        → All (λ (d : Done). IsOfOthers n dones c (word_of n (resource_of d.request)) d.outcome) w.done
    others c w there k e lt = grind (arith, of, words-at, ready-at)
      where
        of : (word : ℕ) (o : Outcome) → HasRead w.hand word o → IsOfOthers n dones c word o
        of word (Contended value) r = other c w word value there r.0 r.1
        of word Raced r = (says_excl r.0, other c w word r.0 there r.1 r.2)
        of word o r = tt

    left : all_held (map hand_of workers) ≡ all_left n dones
    left = all-left n workers
        (λ c w there. (ready-at c w there).worked.held ∙ ap (λ m. left_by m [] w.done) (words-at c w there))

    told-at : (place : ℕ) (told : HandTold) → slice_get (map told_of workers) place ≡ Some told
        → IsHandTold script dones place told
    told-at place told there = grind (arith, unmapped, mapped-at, asked-at, words-at, ready-at, others)

    pub told-right : IsLocked script (record { hands = map told_of workers; words = words })
    told-right = record {
      callers = length-map workers told_of ∙ (length-workers ∙ count);
      hands = told-at;
      count = counted ∙ some_words;
      words = grind (arith, left);
      compatible = subst (AllPairs AreCompatible) left compatible;
    }

-- ---- where nobody does anything

no-lines : (script : Script) → IsWellFormed script → entries_of script.structures ≡ 0 → script.lines ≡ []
no-lines script formed none = lines script.structures script.lines formed.forms none formed.lines refl
  where
    lines : (structures : List StrForm) (lines : List Line) → All IsForm structures → entries_of structures ≡ 0
        → All (IsLineOf script) lines → structures ≡ script.structures → lines ≡ []
    lines structures [] forms none all same = refl
    lines [] (x ∷ xs) forms none all same = grind (arith, All-head, none-some)
    lines (form ∷ more) (x ∷ xs) forms none all same = grind (arith, All-head)

none-left : (n : ℕ) (connectors : List Name16) → all_left n (dones_of (map none_told connectors)) ≡ []
none-left n [] = refl
none-left n (x ∷ xs) = none-left n xs

pub none-right : (script : Script) (told : Locked) (entries : ℕ)
    → IsWellFormed script → entries ≡ entries_of script.structures → (script.connectors ≡ []) ⊎ (entries ≡ 0)
    → told.hands ≡ map none_told script.connectors → told.words ≡ replicate entries 0 → IsLocked script told
none-right script told entries formed same nobody hands words =
    subst (IsLocked script) (λ i. record { hands = sym hands i; words = sym words i }) record {
      callers = length-map script.connectors none_told;
      hands = grind (arith, unmapped, asked, others, All-nil, n);
      count = length-replicate {A = ℕ} entries 0 ∙ same;
      words = λ word below. subst (λ l. HasValue l word (slice_index (replicate entries 0) word))
          (sym (none-left n script.connectors)) (inl (
            refl,
            All-replicate (λ v. v ≡ 0) entries 0 refl word 0
                (omega (arith, below, same, length-replicate {A = ℕ} entries 0)),
            omega arith,
          ));
      compatible = subst (AllPairs AreCompatible) (sym (none-left n script.connectors))
          (λ i j d lt within. absurd (omega (arith, within)));
    }
  where
    n : ℕ
    n = entries_of script.structures

    asked : (place : ℕ) (name : Name16) → slice_get script.connectors place ≡ Some name
        → [] ≡ asked_in (tasks_by (record { 0 = 1 + place }) script.lines)
    asked place name there = grind (arith, ⊎_elim, none-some, no-lines)

pub none-told : {E : Type 0} (result : Result Locked E) (script : Script) (entries : ℕ) (connectors : List Name16)
    → IsWellFormed script → entries ≡ entries_of script.structures → connectors ≡ script.connectors
    → (connectors ≡ []) ⊎ (entries ≡ 0) → IfOk result (λ told. told.hands ≡ map none_told connectors)
    → IfOk result (λ told. told.words ≡ replicate entries 0) → IfOk result (IsLocked script)
none-told (Err e) script entries connectors formed same named nobody hands words = tt
none-told (Ok told) script entries connectors formed same named nobody hands words =
    none-right script told entries formed same
    (subst (λ (l : List Name16). (l ≡ []) ⊎ (entries ≡ 0)) named nobody) (hands ∙ ap (map none_told) named) words

-- ---- what the code cites

pub ruleset nobody_told = (⊎_elim, nobody-named, eqb-true, none-told)

pub ruleset idlers_told = (length-map-range_with_len, length-idle)

pub ruleset returns_read = (nat_tests, return-yes, return-no)

pub ruleset lines_read = (rest_whole, lines-feed, nothing_left, lines-last)
