-- One element more at the front of those that follow each other.
use Rattle.cf_pool.proofs.Imports.{◌≡◌, ℕ, zero, suc, ◌+◌, ◌-◌, ◌<◌, ◌≤◌, min, List, [], ◌∷◌, ◌++◌, take, drop, length, get_or, set, subst, sym, refl, ap, append_assoc, ◌∙◌, arith, if◌then◌else◌, is_ok, Result, Ok, Err, OnOk, take_all, drop_all, length-take, length-append, SIZE, behind, IsWithin, walked, written, stored}

pub behind-step : (next : List ℕ) (n m at : ℕ) → n ≡ suc m → behind next n at ≡ behind next m (get_or next at 0)
behind-step next n m at e = rw e refl

pub within-step : (next : List ℕ) (n m at : ℕ) → n ≡ suc m → IsWithin next n at
    → (at < length next) × IsWithin next m (get_or next at 0)
within-step next n m at e h = subst (λ k. IsWithin next k at) e h

pub walked-step : (cells : List (List ℕ)) (next : List ℕ) (n m at : ℕ) → n ≡ suc m
    → walked cells next n at ≡ take SIZE (get_or cells at []) ++ walked cells next m (get_or next at 0)
walked-step cells next n m at e = rw e refl

pub stored-step : (next : List ℕ) (n m at : ℕ) (bytes : List ℕ) (cells : List (List ℕ)) → n ≡ suc m
    → stored next n at bytes cells
    ≡ stored next m (get_or next at 0) (drop SIZE bytes) (set cells at (written (take SIZE bytes) (get_or cells at [])))
stored-step next n m at bytes cells e = rw e refl

-- the first elements of two lists, one behind the other
pub take_both : (n : ℕ) (xs ys : List ℕ) → take n (xs ++ ys) ≡ take n xs ++ take (n - length xs) ys
take_both zero xs ys = grind arith
take_both (suc n) [] ys =
    let all : suc n - zero ≡ suc n = omega arith in
    sym (ap (λ k. take k ys) all)
take_both (suc n) (x ∷ xs) ys = grind (arith, take_both n xs ys)

-- a walk goes on behind the first part of so many bytes
pub walked_more : (cells : List (List ℕ)) (next : List ℕ) (done now whole : List ℕ) (n m at len wanted : ℕ) → length
    done ≤ len → wanted ≡ len - length done → done ++ take (len - length done) (walked cells next n at) ≡ whole
    → n ≡ suc m → length (get_or cells at []) ≡ SIZE → now ≡ done ++ take wanted (get_or cells at [])
    → (length now ≤ len) × (now ++ take (len - length now) (walked cells next m (get_or next at 0)) ≡ whole)
walked_more cells next done now whole n m at len wanted few left_is h e size given =
    let cell : List ℕ = get_or cells at [] in
    let later : List ℕ = walked cells next m (get_or next at 0) in
    let left : ℕ = len - length done in
    let f : now ≡ done ++ take left cell = given ∙ ap (λ k. done ++ take k cell) left_is in
    let part : length (take left cell) ≡ min left (length cell) = length-take left cell in
    let all : length now ≡ length done + min left (length cell)
    = ap length f ∙ length-append done (take left cell) ∙ ap (λ k. length done + k) part in
    let rest : len - length now ≡ left - length cell = omega (arith, all, few) in
    let walk : take left (walked cells next n at) ≡ take left cell ++ take (left - length cell) later
    = ap (take left) (walked-step cells next n m at e ∙ ap (λ w. w ++ later) (take_all SIZE cell (omega (arith, size))))
    ∙ take_both left cell later in (
      omega (arith, all, few),
      ap (λ w. w ++ take (len - length now) later) f ∙ ap (λ k. (done ++ take left cell) ++ take k later) rest
          ∙ append_assoc done (take left cell) (take (left - length cell) later) ∙ ap (λ w. done ++ w) (sym walk) ∙ h,
    )

-- fewer of them are within too
pub within_fewer : (next : List ℕ) (n m at : ℕ) → m ≤ n → IsWithin next n at → IsWithin next m at
within_fewer next n zero at le h = tt
within_fewer next zero (suc m) at le h = absurd (omega arith)
within_fewer next (suc n) (suc m) at le h = (h.0, within_fewer next n m (get_or next at 0) (omega arith) h.1)

-- ---- at a size that goals would unroll

pub front_all : (size : ℕ) (xs : List ℕ) → length xs < size → take (length xs) xs ≡ take size xs
front_all size xs h = take_all (length xs) xs (omega arith) ∙ sym (take_all size xs (omega arith))

pub rest_none : (size : ℕ) (xs : List ℕ) → length xs < size → drop (length xs) xs ≡ drop size xs
rest_none size xs h = drop_all (length xs) xs (omega arith) ∙ sym (drop_all size xs (omega arith))

pub stored_more : (next : List ℕ) (n m at : ℕ) (bytes part later cell : List ℕ) (cells whole : List (List ℕ))
    → n ≡ suc m → stored next n at bytes cells ≡ whole → part ≡ take SIZE bytes → later ≡ drop SIZE bytes
    → cell ≡ written part (get_or cells at []) → stored next m (get_or next at 0) later (set cells at cell) ≡ whole
stored_more next n m at bytes part later cell cells whole one h p l c = grind (arith, stored-step)

pub appended : {E : Type 0} (r : Result (Unit {0}) E) (new old part : List ℕ)
    → new ≡ (if is_ok r then old ++ part else old) → OnOk r (new ≡ old ++ part)
appended (Ok x) new old part h = h
appended (Err x) new old part h = tt

-- ---- what `store` is proved by

pub ruleset stored_told = (behind-step, stored_more, within-step)
