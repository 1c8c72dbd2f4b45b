-- A loop over a list, one element after another.
use Rattle.std.proofs.Common.{◌≡◌, ℕ, zero, suc, ◌+◌, ◌<◌, ◌≤◌, List, [], ◌∷◌, length, get_or, set, sym, ap, subst, arith}
use Rattle.std.specs.Prelude.{All}
use Rattle.std.proofs.lemmas.List.Elements.{All-nil, All-cons, All-head, All-tail, All-get_or}
use Rattle.history_check.specs.Queues.{Pairs}

module _ {X : Type 0} (over : X → X → Type 0) where
  -- the first ones are done, and the others are as before
  abbrev pub Done : ℕ → (olds news : List X) → Type 0
  Done zero olds news = news ≡ olds
  Done (suc k) [] [] = Unit {0}
  Done (suc k) [] (new ∷ news) = ⊥
  Done (suc k) (old ∷ olds) [] = ⊥
  Done (suc k) (old ∷ olds) (new ∷ news) = over old new × Done k olds news

  done_suc : (k : ℕ) (olds news : List X) (d y : X) → Done k olds news → k < length olds → over (get_or olds k d) y
      → Done (suc k) olds (set news k y)
  done_suc zero [] news d y done within step = absurd (omega (arith, within))
  done_suc zero (x ∷ olds) [] d y done within step = absurd (let same : [] ≡ x ∷ olds = done in cc)
  done_suc zero (x ∷ olds) (new ∷ news) d y done within step = (step, (let same : new ∷ news ≡ x ∷ olds = done in cc))
  done_suc (suc k) [] news d y done within step = absurd (omega (arith, within))
  done_suc (suc k) (x ∷ olds) [] d y done within step = absurd done
  done_suc (suc k) (x ∷ olds) (new ∷ news) d y done within step =
      (done.0, done_suc k olds news d y done.1 (omega (arith, within)) step)

  read_done : (k : ℕ) (olds news : List X) (d : X) → Done k olds news → k < length olds
      → get_or news k d ≡ get_or olds k d
  read_done zero olds news d done within = ap (λ (l : List X). get_or l 0 d) done
  read_done (suc k) [] news d done within = absurd (omega (arith, within))
  read_done (suc k) (x ∷ olds) [] d done within = absurd done
  read_done (suc k) (x ∷ olds) (new ∷ news) d done within = read_done k olds news d done.1 (omega (arith, within))

  pub done_step : (k : ℕ) (olds news : List X) (d y : X) → Done k olds news → k < length olds
      → over (get_or news k d) y → Done (k + 1) olds (set news k y)
  done_step k olds news d y done within step =
      let next : suc k ≡ k + 1 = omega arith in
      subst (λ (n : ℕ). Done n olds (set news k y)) next (done_suc k olds news d y done within
      (subst (λ (x : X). over x y) (read_done k olds news d done within) step))

  pub done_all : (k : ℕ) (olds news : List X) → Done k olds news → length olds ≤ k → Pairs over olds news
  done_all zero [] news done past = subst (λ (l : List X). Pairs over [] l) (sym done) tt
  done_all zero (x ∷ olds) news done past = absurd (omega (arith, past))
  done_all (suc k) [] [] done past = tt
  done_all (suc k) [] (new ∷ news) done past = absurd done
  done_all (suc k) (x ∷ olds) [] done past = absurd done
  done_all (suc k) (x ∷ olds) (new ∷ news) done past = (done.0, done_all k olds news done.1 (omega (arith, past)))

  -- an element to which the loop has come
  pub done_here : (P : X → Type 0) (k : ℕ) (olds news : List X) (d : X) → Done k olds news → k < length olds
      → All P olds → P (get_or news k d)
  done_here P k olds news d done within all =
      subst P (sym (read_done k olds news d done within)) (All-get_or P olds k d within all)

-- ---- what holds of all behind a step

pub pairs_all : {X : Type 0} (over : X → X → Type 0) (P Q : X → Type 0) (olds news : List X)
    → ((x y : X) → P x → over x y → Q y) → All P olds → Pairs over olds news → All Q news
pairs_all over P Q [] [] step all pairs = All-nil Q
pairs_all over P Q [] (y ∷ ys) step all pairs = absurd pairs
pairs_all over P Q (x ∷ xs) [] step all pairs = absurd pairs
pairs_all over P Q (x ∷ xs) (y ∷ ys) step all pairs = All-cons Q y ys (step x y (All-head P x xs all) pairs.0)
    (pairs_all over P Q xs ys step (All-tail P x xs all) pairs.1)

pub pairs_weaker : {X : Type 0} (over under : X → X → Type 0) (olds news : List X)
    → ((x y : X) → over x y → under x y) → Pairs over olds news → Pairs under olds news
pairs_weaker over under [] [] weaker pairs = tt
pairs_weaker over under [] (y ∷ ys) weaker pairs = absurd pairs
pairs_weaker over under (x ∷ xs) [] weaker pairs = absurd pairs
pairs_weaker over under (x ∷ xs) (y ∷ ys) weaker pairs =
    (weaker x y pairs.0, pairs_weaker over under xs ys weaker pairs.1)

pub pairs_same : {X : Type 0} (over : X → X → Type 0) → ((x : X) → over x x) → (xs : List X) → Pairs over xs xs
pairs_same over same [] = tt
pairs_same over same (x ∷ xs) = (same x, pairs_same over same xs)

-- two steps
pub pairs_then : {X : Type 0} (one other both : X → X → Type 0) → ((x y z : X) → one x y → other y z → both x z)
    → (xs ys zs : List X) → Pairs one xs ys → Pairs other ys zs → Pairs both xs zs
pairs_then one other both through [] [] [] first second = tt
pairs_then one other both through [] [] (z ∷ zs) first second = absurd second
pairs_then one other both through [] (y ∷ ys) zs first second = absurd first
pairs_then one other both through (x ∷ xs) [] zs first second = absurd first
pairs_then one other both through (x ∷ xs) (y ∷ ys) [] first second = absurd second
pairs_then one other both through (x ∷ xs) (y ∷ ys) (z ∷ zs) first second =
    (through x y z first.0 second.0, pairs_then one other both through xs ys zs first.1 second.1)
