-- One entry more, and the end of a history.
use Rattle.engine_api.proofs.Imports.{◌≡◌, ℕ, ◌+◌, ◌≤◌, ◌==◌, inl, inr, Bool, true, false, List, [], ◌∷◌, ◌++◌, length, take, slice_get, Some, refl, sym, ap, subst, ◌∙◌, arith, take_at, append_assoc, append-nil, length-append, length-take, slice_get_within, fold, fold-append, eq-eqb, CfId, StrForm, Meaning, Machine, IsLegal, calls, replay, opening, machine_after}
use Rattle.std.proofs.Common.{drop, length-drop}
use Rattle.std.specs.List.{between}
use Rattle.std.specs.Prelude.{All, IfSome, Option}
use Rattle.std.proofs.lemmas.Bool.{false≢true}
use Rattle.std.proofs.lemmas.List.{length-take-le, take_all, take-append-drop}
use Rattle.std.proofs.lemmas.List.Edits.{between_more, between_none, split_between, length-between}
use Rattle.std.proofs.lemmas.Slice.{between_to_end}
use Rattle.std.proofs.lemmas.Option.{get_or_from_slice_get}
use Rattle.engine_api.specs.declared.{asks.Ask.Ask, asks.What.What, histories.Entry.Entry}
use Rattle.engine_api.proofs.HistoryLaws.{calls-append}
use Rattle.block_laws.specs.Blocks.{EndsBlock, IsBadBlock}
use Rattle.vector_waits.specs.Waits.{QueueView}
use Rattle.history_check.specs.Queues.{IsToldAt, IsAsked, Pairs}
use Rattle.history_check.proofs.Pairing.{pairs_all}
use Rattle.history_check.proofs.Asked.{told_asked}
use Rattle.block_laws.specs.Steps.{AreNext}
use Rattle.block_laws.proofs.Judged.{block_next, marks_open}
use Rattle.block_judge.specs.Fits.{IsBlockJudged}
use Rattle.history_check.specs.declared.judged.Judged.{Judged}
use Rattle.history_check.specs.Judging.{IsAt, IsJudged, end_judged}

pub some_has : {X : Type 0} (P : X → Type 0) (found : Option X) (x : X) → found ≡ Some x → IfSome found P → P x
some_has P found x is has = rw is at has

-- ---- lists

module _ {X : Type 0} (xs : List X) (start now : ℕ) (x : X) (few : start ≤ now) (there : slice_get xs now ≡ Some x)
  where
    pub part_more : between start (now + 1) xs ≡ between start now xs ++ x ∷ []
    part_more = between_more xs start now x few (slice_get_within xs now x there)
        ∙ ap (λ (y : X). between start now xs ++ y ∷ []) (get_or_from_slice_get xs now x x there)

    pub cut_more : xs ≡ take start xs ++ ((between start now xs ++ x ∷ []) ++ drop (now + 1) xs)
    cut_more = split_between xs start (now + 1) (omega (arith, few))
        ∙ ap (λ (l : List X). take start xs ++ (l ++ drop (now + 1) xs)) part_more

    pub take_more : take (now + 1) xs ≡ take start xs ++ (between start now xs ++ x ∷ [])
    take_more =
        let within = slice_get_within xs now x there in
        let front : List X = take start xs ++ (between start now xs ++ x ∷ []) in
        let whole : xs ≡ front ++ drop (now + 1) xs =
        cut_more ∙ sym (append_assoc (take start xs) (between start now xs ++ x ∷ []) (drop (now + 1) xs)) in
        let long : length front ≡ now + 1 = grind (arith, length-append, length-take, length-between) in
        ap (take (now + 1)) whole ∙ take_at front (drop (now + 1) xs) (now + 1) long

-- ---- what a judge knows

module _ {C R I S : Type 0} (meaning : Meaning C R I S) (form : StrForm) (history : List (Entry C R)) where
  abbrev At : Machine S → ℕ → ℕ → Type 0
  At machine start now = IsAt meaning form machine history start now

  pub mark_more : (machine : Machine S) (start now : ℕ) (entry : Entry C R) (cf : CfId) → At machine start now
      → slice_get history now ≡ Some entry → entry.what ≡ What.Lost cf → At machine start (now + 1)
  mark_more machine start now entry cf at there lost =
      let begun : start ≤ now = at.begun in
      let none : calls (entry ∷ []) ≡ [] = rw lost refl in
      record {
        begun = omega (arith, begun);
        within = (let within = slice_get_within history now entry there in omega (arith, within));
        legal = at.legal;
        behind = at.behind;
        marks = ap (λ (h : List (Entry C R)). calls h) (part_more history start now entry begun there) ∙ calls-append
            (between start now history) (entry ∷ []) ∙ ap (λ (cs : List _). cs ++ calls (entry ∷ [])) at.marks ∙ none;
      }

  module _ (machine new : Machine S) (start now : ℕ) (entry : Entry C R) (ask : Ask C) (at : At machine start now)
      (there : slice_get history now ≡ Some entry) (is : entry.what ≡ What.Call ask) where
    abbrev before : List (Entry C R)
    before = take start history

    abbrev marks : List (Entry C R)
    marks = between start now history

    begun : start ≤ now
    begun = at.begun

    long : length before ≡ start
    long = let within = slice_get_within history now entry there in grind (arith, length-take)

    moved : AreNext meaning form machine start marks entry ask
        → AreNext meaning form (replay meaning form before) (length before) marks entry ask
    moved next = subst (λ (n : ℕ). AreNext meaning form (replay meaning form before) n marks entry ask) (sym long)
        (subst (λ (m : Machine S). AreNext meaning form m start marks entry ask) at.behind next)

    moved_back : AreNext meaning form (replay meaning form before) (length before) marks entry ask
        → AreNext meaning form machine start marks entry ask
    moved_back next = subst (λ (m : Machine S). AreNext meaning form m start marks entry ask) (sym at.behind)
        (subst (λ (n : ℕ). AreNext meaning form (replay meaning form before) n marks entry ask) long next)

    pub block_more : IsBlockJudged meaning form machine new start marks entry ask true → At new (now + 1) (now + 1)
    block_more judged =
        let cut : take (now + 1) history ≡ before ++ (marks ++ entry ∷ []) =
        take_more history start now entry begun there in
        let next = moved (judged.told.0 refl) in
        let whole = (block_next meaning form entry ask is before marks at.legal at.marks).1 next in
        let left : new ≡ fold (machine_after meaning form) machine (marks ++ entry ∷ []) = judged.left refl in
        record {
          begun = omega arith;
          within = (let within = slice_get_within history now entry there in omega (arith, within));
          legal = subst (IsLegal meaning form) (sym cut) whole;
          behind = left ∙ ap (λ (m : Machine S). fold (machine_after meaning form) m (marks ++ entry ∷ [])) at.behind
              ∙ sym (fold-append (machine_after meaning form) (opening meaning form) before (marks ++ entry ∷ []))
              ∙ ap (replay meaning form) (sym cut);
          marks = ap (λ (h : List (Entry C R)). calls h) (between_none history (now + 1));
        }

    pub block_bad : IsBlockJudged meaning form machine new start marks entry ask false
        → IsBadBlock meaning form history (start + 1)
    block_bad judged = record {
      before = before;
      block = marks ++ entry ∷ [];
      behind = drop (now + 1) history;
      whole = cut_more history start now entry begun there;
      cut = inl (record { marks = marks; entry = entry; ask = ask; is = refl; marked = at.marks; asks = is });
      legal = at.legal;
      bad = λ whole. false≢true (judged.told.1 (moved_back
          ((block_next meaning form entry ask is before marks at.legal at.marks).0 whole)));
      here = omega (arith, long);
    }

    -- under the form's other name

    pub found_good : (named : StrForm) (fits : Bool) → named ≡ form → fits ≡ true → IsBlockJudged
        meaning form machine new start marks entry ask fits → IsAt meaning named new history (now + 1) (now + 1)
    found_good named fits same fit judged = subst (λ (f : StrForm). IsAt meaning f new history (now + 1) (now + 1))
        (sym same) (block_more (subst (λ (b : Bool). IsBlockJudged meaning form machine new start marks entry ask b) fit
        judged))

    pub found_bad : (named : StrForm) (fits : Bool) → named ≡ form → fits ≡ false → IsBlockJudged
        meaning form machine new start marks entry ask fits → IsBadBlock meaning named history (start + 1)
    found_bad named fits same not judged = subst (λ (f : StrForm). IsBadBlock meaning f history (start + 1)) (sym same)
        (block_bad (subst (λ (b : Bool). IsBlockJudged meaning form machine new start marks entry ask b) not judged))

    -- the tests at the block's call

    pub found_asked : (named : StrForm) (fits : Bool) → named ≡ form → fits ≡ true
        → IsBlockJudged meaning form machine new start marks entry ask fits → (olds news : List QueueView)
        → (fits ≡ true → Pairs (IsToldAt meaning machine new (now + 1)) olds news) → All
        (IsAsked meaning form (take start history)) olds → All (IsAsked meaning named (take (now + 1) history)) news
    found_asked named fits same fit judged olds news told asked =
        let good = block_more (subst (λ (b : Bool). IsBlockJudged meaning form machine new start marks entry ask b) fit
        judged) in
        let block : List (Entry C R) = marks ++ entry ∷ [] in
        let cut : take (now + 1) history ≡ before ++ block = take_more history start now entry begun there in
        let whole : IsLegal meaning form (before ++ block) = subst (IsLegal meaning form) cut good.legal in
        let last : length (before ++ block) ≡ now + 1 = (let within = slice_get_within history now entry there in
        ap (λ (h : List (Entry C R)). length h) (sym cut) ∙ length-take-le (now + 1) history (omega (arith, within))) in
        let behind : new ≡ replay meaning form (before ++ block) = good.behind ∙ ap (replay meaning form) cut in
        let ends : EndsBlock block = record {
          marks = marks;
          entry = entry;
          ask = ask;
          is = refl;
          marked = at.marks;
          asks = is;
        } in
        let moved_told = λ (x y : QueueView) (it : IsToldAt meaning machine new (now + 1) x y).
        (subst (λ (n : ℕ). IsToldAt meaning (replay meaning form before) (replay meaning form (before ++ block)) n x y)
        (sym last) (subst (λ (m : Machine S). IsToldAt meaning (replay meaning form before) m (now + 1) x y) behind
        (subst (λ (m : Machine S). IsToldAt meaning m new (now + 1) x y) at.behind it))) in
        let all = pairs_all (IsToldAt meaning machine new (now + 1)) (IsAsked meaning form before)
        (IsAsked meaning form (before ++ block)) olds news (λ x y old it. told_asked meaning form before block at.legal
        whole ends x y old (moved_told x y it)) asked (told fit) in
        subst (λ (f : StrForm). All (IsAsked meaning f (take (now + 1) history)) news) (sym same)
        (subst (λ (h : List (Entry C R)). All (IsAsked meaning form h) news) (sym cut) all)

  -- ---- the end

  end_legal : (machine : Machine S) (start : ℕ) → At machine start (length history) → start ≡ length history
      → IsLegal meaning form history
  end_legal machine start at all = subst (IsLegal meaning form) (take_all start history (omega (arith, all))) at.legal

  end_bad : (machine : Machine S) (start : ℕ) → At machine start (length history) → (start ≡ length history → ⊥)
      → IsBadBlock meaning form history (start + 1)
  end_bad machine start at not =
      let begun : start ≤ length history = at.begun in
      let none : calls (drop start history) ≡ [] = ap (λ (h : List (Entry C R)). calls h)
      (sym (between_to_end history start (length history) (omega arith))) ∙ at.marks in
      record {
        before = take start history;
        block = drop start history;
        behind = [];
        whole = sym (take-append-drop start history) ∙ ap (λ (h : List (Entry C R)). take start history ++ h)
            (sym (append-nil (drop start history)));
        cut = inr (none, refl);
        legal = at.legal;
        bad = λ whole. (let left =
            marks_open meaning form (take start history) (drop start history) at.legal none whole in
            let few : length (drop start history) ≡ 0 = ap (λ (h : List (Entry C R)). length h) left in
            not (grind (arith, length-drop)));
        here = (let long : length (take start history) ≡ start = grind (arith, length-take) in omega (arith, long));
      }

  pub ended : (machine : Machine S) (start : ℕ) → At machine start (length history)
      → IsJudged meaning form history (end_judged start (length history))
  ended machine start at = by_test (start == length history) refl
    where
      by_test : (b : Bool) → start == length history ≡ b
          → IsJudged meaning form history (end_judged start (length history))
      by_test true same = rw same (end_legal machine start at (grind (arith, eq-eqb)))
      by_test false other = rw other (end_bad machine start at (λ same. grind (arith, eq-eqb)))

  pub finished : (machine : Machine S) (start now : ℕ) (found : Judged) → At machine start now → length history ≤ now
      → found ≡ end_judged start (length history) → IsJudged meaning form history found
  finished machine start now found at past is =
      let within : now ≤ length history = at.within in
      let all : now ≡ length history = omega (arith, past, within) in
      subst (IsJudged meaning form history)
      (sym is) (ended machine start (subst (λ (n : ℕ). At machine start n) all at))
