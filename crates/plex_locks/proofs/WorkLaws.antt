-- One outcome more of a connector at work.
use Rattle.plex_locks.proofs.Imports.{◌≡◌, ◌<◌, ℕ, Bool, true, false, List, [], ◌∷◌, ◌++◌, Option, None, Some, Contains, map, refl, sym, ap, ◌∙◌, subst, ⊎_elim, arith, append_assoc, append-nil, eq-zero-or-pos, map-append, flat_map-append, All-push, All-weaker, Contains-append_left, Contains-push, Resource, Hold, Reading, Grant, Admits, held_as, grant, reading, HandSeen, hand_released, Request, Obtain, Release, Outcome, Granted, Held, Contended, Raced, Freed, NotHeld, Done, word_of, resource_of, then_holds, left_by, grant_in, granted_by, IsOutcome, FollowsOwn, IsTried, HasRead, ReadsDone, IsWorked}

abbrev done_as : Request → Outcome → Done
done_as request outcome = record { request = request; outcome = outcome }

abbrev held_in : HandSeen → List Hold → List Grant → List Reading → HandSeen
held_in hand held ever read = record hand { held = held; ever = ever; read = read }

left-more : (n : ℕ) (held : List Hold) (dones : List Done) (d : Done)
    → left_by n held (dones ++ d ∷ []) ≡ then_holds n (left_by n held dones) d.request d.outcome
left-more n held [] d = refl
left-more n held (x ∷ xs) d = left-more n (then_holds n held x.request x.outcome) xs d

follows-more : (n : ℕ) (held : List Hold) (dones : List Done) (d : Done) → FollowsOwn n held dones
    → IsOutcome n (left_by n held dones) d.request d.outcome → FollowsOwn n held (dones ++ d ∷ [])
follows-more n held [] d own here = (here, tt)
follows-more n held (x ∷ xs) d own here =
    (own.0, follows-more n (then_holds n held x.request x.outcome) xs d own.1 here)

granted-more : (n : ℕ) (dones : List Done) (d : Done)
    → granted_by n (dones ++ d ∷ []) ≡ granted_by n dones ++ grant_in n d.request d.outcome
granted-more n dones d = grind (arith, flat_map-append, append-nil)

abbrev grants : ℕ → List Hold → List Grant
grants number holds = map (λ (x : Hold). grant number x.word x.excl) holds

module _ (hand : HandSeen) (dones : List Done) (worked : IsWorked hand dones) where
  -- what was read stays read
  still-read : (held : List Hold) (ever : List Grant) (more : List Reading) (word : ℕ) (o : Outcome)
      → HasRead hand word o → HasRead (held_in hand held ever (hand.read ++ more)) word o
  still-read held ever more word (Contended value) r = grind (arith, Contains-append_left)
  still-read held ever more word Raced r = grind (arith, Contains-append_left)
  still-read held ever more word o r = tt

  worked-more : (request : Request) (outcome : Outcome) (more : List Reading) → IsOutcome
      hand.words hand.held request outcome → HasRead (held_in hand (then_holds hand.words hand.held request outcome)
      (hand.ever ++ grants hand.number (grant_in hand.words request outcome)) (hand.read ++ more))
      (word_of hand.words (resource_of request)) outcome
      → IsWorked (held_in hand (then_holds hand.words hand.held request outcome) (hand.ever ++ grants
      hand.number (grant_in hand.words request outcome)) (hand.read ++ more)) (dones ++ done_as request outcome ∷ [])
  worked-more request outcome more is reads =
      let n = hand.words in
      let d = done_as request outcome in
      let after = held_in hand (then_holds n hand.held request outcome)
      (hand.ever ++ grants hand.number (grant_in n request outcome)) (hand.read ++ more) in record {
        own = follows-more n [] dones d worked.own (subst (λ h. IsOutcome n h request outcome) worked.held is);
        held = ap (λ h. then_holds n h request outcome) worked.held ∙ sym (left-more n [] dones d);
        ever = grind (arith, map-append, granted-more);
        read = All-push (ReadsDone after) dones d (grind (arith, All-weaker, still-read)) reads;
      }

  -- nothing but what was read
  looked-more : (request : Request) (outcome : Outcome) (more : List Reading) → IsOutcome hand.words hand.held request
      outcome → then_holds hand.words hand.held request outcome ≡ hand.held → grant_in hand.words request outcome ≡ []
      → HasRead (record hand { read = hand.read ++ more }) (word_of hand.words (resource_of request)) outcome
      → IsWorked (record hand { read = hand.read ++ more }) (dones ++ done_as request outcome ∷ [])
  looked-more request outcome more is held none reads = subst (λ (h : HandSeen). IsWorked h
      (dones ++ done_as request outcome ∷ [])) (λ i. held_in hand (held i) (only i) (hand.read ++ more)) (worked-more
      request outcome more is (grind (arith, only)))
    where
      only : hand.ever ++ grants hand.number (grant_in hand.words request outcome) ≡ hand.ever
      only = ap (λ l. hand.ever ++ grants hand.number l) none ∙ append-nil hand.ever

  -- nothing at all
  same-hand : (request : Request) (outcome : Outcome) → IsOutcome hand.words hand.held request outcome
      → then_holds hand.words hand.held request outcome ≡ hand.held → grant_in hand.words request outcome ≡ []
      → HasRead (record hand { read = hand.read ++ [] }) (word_of hand.words (resource_of request)) outcome
      → IsWorked hand (dones ++ done_as request outcome ∷ [])
  same-hand request outcome is held none reads = subst (λ (h : HandSeen). IsWorked h (dones ++ done_as request outcome
      ∷ [])) (λ i. record hand { read = append-nil hand.read i }) (looked-more request outcome [] is held none reads)

  module _ (after : HandSeen) (r : Resource) where
    abbrev word : ℕ
    word = word_of hand.words r

    abbrev Next : Request → Outcome → Type 0
    Next request outcome = IsWorked after (dones ++ done_as request outcome ∷ [])

    tried-more : (excl : Bool) → held_as hand.held word ≡ None → (o : Outcome) → IsTried word excl hand after o
        → Next (Obtain r excl) o
    tried-more excl none Granted t =
        let a = reading hand.number word t.0 in
        subst (λ (h : HandSeen). IsWorked h (dones ++ done_as (Obtain r excl) Granted ∷ [])) (
        grind (arith, append_assoc)) (worked-more (Obtain r excl) Granted (a ∷ a ∷ []) (rw none tt) tt)
    tried-more excl none (Contended value) t =
        let a = reading hand.number word value in
        subst (λ (h : HandSeen). IsWorked h (dones ++ done_as (Obtain r excl) (Contended value) ∷ []))
        (sym t.1) (looked-more (Obtain r excl) (Contended value)
        (a ∷ []) (rw none t.0) refl refl (some_value excl value t.0, Contains-push hand.read a))
      where
        some_value : (excl : Bool) (value : ℕ) → ¬ Admits value excl → 0 < value
        some_value true value full = grind (arith, ⊎_elim, eq-zero-or-pos)
        some_value false value full = grind (arith, ⊎_elim, eq-zero-or-pos)
    tried-more excl none Raced t =
        let seen = t.0 in
        let found = t.1 in
        let a = reading hand.number word seen in
        let b = reading hand.number word found in
        subst (λ (h : HandSeen). IsWorked h (dones ++ done_as (Obtain r excl) Raced ∷ []))
        ((λ i. record hand { read = sym (append_assoc hand.read (a ∷ []) (b ∷ [])) i }) ∙ sym t.2.2)
        (looked-more (Obtain r excl) Raced (a ∷ b ∷ []) (rw none tt) refl
        refl (⊎_elim (λ (z : seen ≡ 0). ⊎_elim (λ (y : found ≡ 0). absurd (t.2.1 (z ∙ sym y))) (λ (p : 0 < found). (
          found,
          p,
          subst (λ l. Contains l b) (append_assoc hand.read (a ∷ []) (b ∷ []))
              (Contains-push (hand.read ++ a ∷ []) b),
        )) (eq-zero-or-pos found)) (λ (p : 0 < seen). (
          seen,
          p,
          subst (λ l. Contains l a) (append_assoc hand.read (a ∷ []) (b ∷ []))
              (Contains-append_left (hand.read ++ a ∷ []) (b ∷ []) a (Contains-push hand.read a)),
        )) (eq-zero-or-pos seen)))
    tried-more excl none o t = absurd t

    -- what an attempt at a word, and the release of one, have to show
    abbrev Obtains : Outcome → Bool → ℕ → Type 0
    Obtains outcome excl w = ((e : Bool) → held_as hand.held w ≡ Some e → (outcome ≡ Held e) × (after ≡ hand))
        → (held_as hand.held w ≡ None → IsTried w excl hand after outcome) → Next (Obtain r excl) outcome

    abbrev Releases : Outcome → ℕ → Type 0
    Releases outcome w = ((e : Bool) → held_as hand.held w ≡ Some e → (outcome ≡ Freed) × (after ≡ hand_released
        hand w)) → (held_as hand.held w ≡ None → (outcome ≡ NotHeld) × (after ≡ hand)) → Next (Release r) outcome

    obtained-here : (excl : Bool) (outcome : Outcome) → Obtains outcome excl word
    obtained-here excl outcome held tried = go (held_as hand.held word) refl
      where
        go : (o : Option Bool) → held_as hand.held word ≡ o → Next (Obtain r excl) outcome
        go (Some e) is =
            let t = held e is in rw (t.0, t.1) (same-hand (Obtain r excl) (Held e) (rw is refl) refl refl tt)
        go None is = tried-more excl is outcome (tried is)

    released-here : (outcome : Outcome) → Releases outcome word
    released-here outcome held free = go (held_as hand.held word) refl
      where
        go : (o : Option Bool) → held_as hand.held word ≡ o → Next (Release r) outcome
        go (Some e) is =
            let t = held e is in
            subst (λ (x : HandSeen × Outcome). IsWorked x.0 (dones ++ done_as (Release r) x.1 ∷ []))
            (grind (arith, append-nil)) (worked-more (Release r) Freed [] (rw is refl) tt)
        go None is =
            let t = free is in rw (t.0, t.1) (same-hand (Release r) NotHeld (rw is refl) refl refl tt)

    -- at the word that the resource has
    module _ (place : ℕ) (is : place ≡ word_of hand.words r) (outcome : Outcome) where
      pub obtained : (excl : Bool) → Obtains outcome excl place
      obtained excl = subst (Obtains outcome excl) (sym is) (obtained-here excl outcome)

      pub released : Releases outcome place
      released = subst (Releases outcome) (sym is) (released-here outcome)
