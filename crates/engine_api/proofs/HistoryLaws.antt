-- Legal histories: what one more turn does to one, and what is known of each of its entries.
use Rattle.engine_api.proofs.Imports.{◌≡◌, ℕ, suc, ◌+◌, ◌≤◌, inl, inr, List, [], ◌∷◌, ◌++◌, length, take, slice_get, Some, refl, sym, ap, subst, ◌∙◌, arith, append_assoc, append-nil, length-append, fold, take-append-le, length-take, slice_get_within, fold_push, filter_map-append, CfId, Entry, StrForm, Meaning, opening, step, Call, Turn, call_of, calls, machine_after, replay, next_mark, next_entry, with_mark, with_marks, marks_by, after_turn, IsLegal, IsNext, IsEachNext, Continues}
use Rattle.std.proofs.lemmas.List as lists
use Rattle.engine_api.proofs.Pushed.{Each, each_none, each_push, cut_push}

-- ---- calls

module _ {C R : Type 0} where
  pub calls-append : (xs ys : List (Entry C R)) → calls (xs ++ ys) ≡ calls xs ++ calls ys
  calls-append xs ys = filter_map-append call_of xs ys

module _ {C R I S : Type 0} (meaning : Meaning C R I S) (form : StrForm) where
  pub replay-push : (history : List (Entry C R)) (entry : Entry C R)
      → replay meaning form (history ++ entry ∷ []) ≡ machine_after meaning form (replay meaning form history) entry
  replay-push history entry = fold_push (machine_after meaning form) (opening meaning form) history entry

  -- ---- turns

  pub legal_none : IsLegal meaning form []
  legal_none = record { turns = []; made = refl }

  -- one more turn leaves a legal history legal
  pub legal_turn : (history : List (Entry C R)) (turn : Turn C) → IsLegal meaning form history
      → IsLegal meaning form (after_turn meaning form history turn)
  legal_turn history turn legal = record {
    turns = legal.turns ++ turn ∷ [];
    made = grind (arith, fold_push);
  }

  -- what holds of no entries, and of one turn more, holds of a legal history
  pub by_turns : (P : List (Entry C R) → Type 0) → P [] → ((history : List (Entry C R)) (turn : Turn C)
      → IsLegal meaning form history → P history → P (after_turn meaning form history turn))
      → (history : List (Entry C R)) → IsLegal meaning form history → P history
  by_turns P none more history legal = subst P (sym legal.made) (go legal.turns [] legal_none none)
    where
      go : (turns : List (Turn C)) (h : List (Entry C R)) → IsLegal meaning form h
          → P h → P (fold (after_turn meaning form) h turns)
      go [] h fine p = p
      go (turn ∷ turns) h fine p =
          go turns (after_turn meaning form h turn) (legal_turn h turn fine) (more h turn fine p)

  -- and what holds of one mark more, and of one call more
  pub by_marks : (P : List (Entry C R) → Type 0)
      → ((history : List (Entry C R)) (cf : CfId) → P history → P (with_mark meaning form history cf))
      → (marks : List CfId) (history : List (Entry C R)) → P history → P (with_marks meaning form history marks)
  by_marks P more [] history p = p
  by_marks P more (cf ∷ marks) history p = by_marks P more marks (with_mark meaning form history cf) (more history cf p)

  pub by_entries : (P : List (Entry C R) → Type 0)
      → P [] → ((history : List (Entry C R)) (entry : Entry C R) → P history → IsNext meaning form history entry
      → P (history ++ entry ∷ [])) → (history : List (Entry C R)) → IsLegal meaning form history → P history
  by_entries P none more history legal = by_turns P none (λ h turn fine p.
      let marked : List (Entry C R) = with_marks meaning form h (marks_by meaning form turn.down h turn.by turn.ask) in
      more marked (next_entry meaning form marked turn.by turn.ask)
      (by_marks P (grind arith) (marks_by meaning form turn.down h turn.by turn.ask) h p) refl) history legal

  -- ---- each entry

  -- each entry is the next one of those before it
  pub each_next : (history : List (Entry C R)) → IsLegal meaning form history → IsEachNext meaning form history
  each_next history legal = by_entries
      (Each (IsNext meaning form)) (each_none (IsNext meaning form)) (each_push (IsNext meaning form)) history legal

  -- the numbers count from 1
  pub number_legal : (history : List (Entry C R)) → IsLegal meaning form history → (i : ℕ) (entry : Entry C R)
      → slice_get history i ≡ Some entry → entry.no ≡ i + 1
  number_legal history legal i entry e = grind (arith, slice_get_within, length-take, each_next)

  -- ---- calls

  pub calls-marks : (marks : List CfId) (history : List (Entry C R))
      → calls (with_marks meaning form history marks) ≡ calls history
  calls-marks [] history = refl
  calls-marks (cf ∷ marks) history =
      grind (arith, calls-append, append-nil, calls-marks marks (with_mark meaning form history cf))

  -- the call that a turn adds
  abbrev pub call_added : List (Entry C R) → Turn C → Call C R
  call_added history turn =
      let marked = with_marks meaning form history (marks_by meaning form turn.down history turn.by turn.ask) in
      record {
        no = length marked + 1;
        by = turn.by;
        ask = turn.ask;
        reply = (step meaning form (replay meaning form marked) turn.by turn.ask).reply;
      }

  pub calls-turn : (history : List (Entry C R)) (turn : Turn C)
      → calls (after_turn meaning form history turn) ≡ calls history ++ call_added history turn ∷ []
  calls-turn history turn = grind (arith, calls-append, calls-marks)

  -- a call of a history: the entries up to it are the next ones of a legal history that has the calls before it
  pub record IsMade (history : List (Entry C R)) (front : List (Call C R)) (call : Call C R) : Type 0 where
    pub began : List (Entry C R)
    pub turn : Turn C
    pub legal : IsLegal meaning form began
    pub before : calls began ≡ front
    pub behind : List (Entry C R)
    pub starts : history ≡ began ++ behind
    pub is : call ≡ call_added began turn
    pub up_to : take call.no history ≡ after_turn meaning form began turn
    pub within : call.no ≤ length history

  made_more : (history : List (Entry C R)) (entry : Entry C R) (front : List (Call C R)) (call : Call C R)
      → IsMade history front call → IsMade (history ++ entry ∷ []) front call
  made_more history entry front call made = grind (arith, append_assoc, take-append-le, length-append)

  abbrev AreMade : List (Entry C R) → Type 0
  AreMade history = (front : List (Call C R)) (call : Call C R) (more : List (Call C R))
      → calls history ≡ front ++ call ∷ more → IsMade history front call

  none_made : AreMade []
  none_made [] call more e = absurd cc
  none_made (first ∷ front) call more e = absurd cc

  -- marks are added behind a history
  added_marks : (marks : List CfId) (history : List (Entry C R))
      → (added : List (Entry C R)) × (with_marks meaning form history marks ≡ history ++ added)
  added_marks [] history = ([], sym (append-nil history))
  added_marks (cf ∷ marks) history =
      grind (arith, append_assoc, added_marks marks (with_mark meaning form history cf))

  -- and so is a turn
  pub added_turn : (history : List (Entry C R)) (turn : Turn C)
      → (added : List (Entry C R)) × (after_turn meaning form history turn ≡ history ++ added)
  added_turn history turn =
      let marks : List CfId = marks_by meaning form turn.down history turn.by turn.ask in
      let marked : List (Entry C R) = with_marks meaning form history marks in
      let call : Entry C R = next_entry meaning form marked turn.by turn.ask in
      let some = added_marks marks history in (
        some.0 ++ call ∷ [],
        ap (λ (h : List (Entry C R)). h ++ call ∷ []) some.1 ∙ append_assoc history some.0 (call ∷ []),
      )

  made_here : (history : List (Entry C R)) (turn : Turn C) → IsLegal meaning form history
      → IsMade (after_turn meaning form history turn) (calls history) (call_added history turn)
  made_here history turn fine =
      let marks : List CfId = marks_by meaning form turn.down history turn.by turn.ask in
      let marked : List (Entry C R) = with_marks meaning form history marks in
      let added : Entry C R = next_entry meaning form marked turn.by turn.ask in
      record {
        began = history;
        turn = turn;
        legal = fine;
        before = refl;
        behind = (added_turn history turn).0;
        starts = (added_turn history turn).1;
        is = refl;
        up_to = lists.take_all
            (length marked + 1) (marked ++ added ∷ []) (omega (arith, length-append marked (added ∷ [])));
        within = omega (arith, length-append marked (added ∷ []));
      }

  made_later : (history : List (Entry C R)) (turn : Turn C) (front : List (Call C R)) (call : Call C R)
      → IsMade history front call → IsMade (after_turn meaning form history turn) front call
  made_later history turn front call made =
      let marks : List CfId = marks_by meaning form turn.down history turn.by turn.ask in
      let marked : List (Entry C R) = with_marks meaning form history marks in
      made_more marked (next_entry meaning form marked turn.by turn.ask) front call (by_marks (λ some. IsMade some
      front call) (λ some cf. made_more some (next_mark meaning form some cf) front call) marks history made)

  pub call_made : (history : List (Entry C R)) → IsLegal meaning form history → (front : List (Call C R))
      (call : Call C R) (more : List (Call C R)) → calls history ≡ front ++ call ∷ more → IsMade history front call
  call_made history legal = by_turns AreMade none_made (λ h turn fine made front call more e. elim (cut_push
      (calls h) (call_added h turn) front call more (sym (calls-turn h turn) ∙ e)) [
        | inl old ↦ made_later h turn front call (made front call old.0 old.1)
        | inr here ↦ rw (here.0, here.1) (made_here h turn fine)
      ]) history legal

  -- ---- what continues a history

  abbrev FollowsEach : List (Entry C R) → List (Entry C R) → Type 0
  FollowsEach history others = (i : ℕ) (entry : Entry C R) → slice_get others i ≡ Some entry
      → IsNext meaning form (history ++ take i others) entry

  continues_each : (history others : List (Entry C R)) → FollowsEach history others → Continues meaning form history
      others
  continues_each history [] each = tt
  continues_each history (entry ∷ others) each = (
    subst (λ (h : List (Entry C R)). IsNext meaning form h entry) (append-nil history) (each 0 entry refl),
    continues_each (history ++ entry ∷ []) others (λ i other e. subst (λ (h : List (Entry C R)). IsNext meaning
        form h other) (sym (append_assoc history (entry ∷ []) (take i others))) (each (suc i) other e)),
  )

  -- each entry of a legal history continues those before it
  pub continues_legal : (history : List (Entry C R)) → IsLegal meaning form history → Continues meaning form
      [] history
  continues_legal history legal = continues_each [] history (each_next history legal)
