-- Elements of one owner, each with its rank.
use Rattle.cf_pool.proofs.Imports.{◌≡◌, ◌≢◌, ℕ, zero, suc, ◌+◌, ◌*◌, ◌<◌, ◌≤◌, List, [], ◌∷◌, ◌++◌, take, drop, length, get_or, set, subst, sym, refl, ap, ◌∙◌, inl, inr, arith, get_or-set_same, get_or-set_other, length-set, take-append-add, take_all, take_at, take-append-le, take-take, length-take, length-take-le, length-drop, length-append, take-append-drop, cases_lt, SIZE, behind, IsWithin, walked, written, stored, IsRun}

module _ (owner rank owner' rank' : ℕ → ℕ) where
  -- a run is one of other owners, ranks and links that agree on its elements
  pub kept_run : (next next' : List ℕ) (label bound n at : ℕ) → length next' ≡ length next → ((x : ℕ) → owner
      x ≡ label → rank x < bound → (owner' x ≡ label) × (rank' x ≡ rank x) × (get_or next' x 0 ≡ get_or next x 0))
      → n ≤ bound → IsRun owner rank next label n at → IsRun owner' rank' next' label n at
  kept_run next next' label bound zero at len same le run = tt
  kept_run next next' label bound (suc n) at len same le run =
      grind (arith, kept_run next next' label bound n (get_or next at 0) len same (omega arith) run.3)

  -- the front of a run goes to a new owner
  pub front_run : (next : List ℕ) (label label' f t n at : ℕ) → t ≡ n + f
      → ((x : ℕ) → owner x ≡ label → f ≤ rank x → (owner' x ≡ label') × (rank' x + f ≡ rank x))
      → IsRun owner rank next label t at → IsRun owner' rank' next label' n at
  front_run next label label' f t zero at e moves run = tt
  front_run next label label' f zero (suc n) at e moves run = absurd (omega arith)
  front_run next label label' f (suc t) (suc n) at e moves run =
      grind (arith, front_run next label label' f t n (get_or next at 0) (omega arith) moves run.3)

  -- a run in front of another one, to which its last element leads
  pub joined_run : (next next' : List ℕ) (label label' f n at last first : ℕ) → length next' ≡ length next → ((x : ℕ)
      → owner x ≡ label → (owner' x ≡ label') × (rank' x ≡ rank x + f)) → ((x : ℕ) → x ≢ last → get_or next' x 0 ≡
      get_or next x 0) → get_or next' last 0 ≡ first → IsRun owner' rank' next' label' f first → rank last ≡ 0 → IsRun
      owner rank next label (suc n) at → behind next n at ≡ last → IsRun owner' rank' next' label' (suc n + f) at
  joined_run next next' label label' f zero at last first len moves same to rest low run e = grind arith
  joined_run next next' label label' f (suc n) at last first len moves same to rest low run e =
      let here = moves at run.1 in
      let one : suc (suc n) + f ≡ suc (suc n + f) = omega arith in
      let other : at ≢ last = λ is.
      (let zero_rank : rank at ≡ 0 = subst (λ x. rank x ≡ 0) (sym is) low in omega (arith, zero_rank, run.2)) in
      subst (λ k. IsRun owner' rank' next' label' k at) (sym one) (
        omega (arith, run.0),
        here.0,
        omega (arith, here.1, run.2),
        subst (λ x. IsRun owner' rank' next' label' (suc n + f) x) (sym (same at other)) (joined_run
            next next' label label' f n (get_or next at 0) last first len moves same to rest low run.3 e),
      )

module _ (owner rank : ℕ → ℕ) (next : List ℕ) (label : ℕ) where
  pub within_run : (n at : ℕ) → IsRun owner rank next label n at → IsWithin next n at
  within_run zero at run = tt
  within_run (suc n) at run = (run.0, within_run n (get_or next at 0) run.3)

  -- what is behind the front is a run
  pub back_run : (f t n at : ℕ) → t ≡ n + f → IsRun owner rank next label t at
      → IsRun owner rank next label f (behind next n at)
  back_run f t zero at e run = subst (λ k. IsRun owner rank next label k at) (omega arith) run
  back_run f zero (suc n) at e run = absurd (omega arith)
  back_run f (suc t) (suc n) at e run = back_run f t n (get_or next at 0) (omega arith) run.3

  -- the last element of a run
  pub last_run : (n at : ℕ) → IsRun owner rank next label (suc n) at
      → (behind next n at < length next) × (owner (behind next n at) ≡ label) × (rank (behind next n at) ≡ 0)
  last_run zero at run = (run.0, run.1, run.2)
  last_run (suc n) at run = last_run n (get_or next at 0) run.3

-- ---- the bytes of a run

-- a run has the bytes that it had, where its elements and links are the same
pub same_walk : (owner rank : ℕ → ℕ) (cells cells' : List (List ℕ)) (next next' : List ℕ) (label n at : ℕ)
    → ((x : ℕ) → owner x ≡ label → (get_or cells' x [] ≡ get_or cells x []) × (get_or next' x 0 ≡ get_or next x 0))
    → IsRun owner rank next label n at → walked cells' next' n at ≡ walked cells next n at
same_walk owner rank cells cells' next next' label zero at same run = refl
same_walk owner rank cells cells' next next' label (suc n) at same run =
    grind (arith, same_walk owner rank cells cells' next next' label n (get_or next at 0) same run.3)

-- what is stored in a run changes nothing outside
pub stored_outside : (owner rank : ℕ → ℕ) (next : List ℕ) (label n at x : ℕ) (bytes : List ℕ) (cells : List (List ℕ))
    → IsRun owner rank next label n at → (owner x ≡ label → n ≤ rank x)
    → get_or (stored next n at bytes cells) x [] ≡ get_or cells x []
stored_outside owner rank next label zero at x bytes cells run out = refl
stored_outside owner rank next label (suc n) at x bytes cells run out =
    let other : x ≢ at = λ is. (let owned : owner x ≡ label = ap owner is ∙ run.1 in
    let low : rank x ≡ n = ap rank is ∙ run.2 in omega (arith, out owned, low)) in
    stored_outside owner rank next label n (get_or next at 0) x (drop SIZE bytes) _ run.3 (λ o. omega (arith, out o))
    ∙ get_or-set_other cells at x _ [] other

pub length-stored : (next : List ℕ) (n at : ℕ) (bytes : List ℕ) (cells : List (List ℕ))
    → length (stored next n at bytes cells) ≡ length cells
length-stored next zero at bytes cells = refl
length-stored next (suc n) at bytes cells =
    length-stored next n (get_or next at 0) (drop SIZE bytes) _ ∙ length-set cells at _

-- one element with the front of the bytes, and the next ones with the rest
front_and_rest : (size : ℕ) (bytes cell rest : List ℕ) → take (length (drop size bytes)) rest ≡ drop size bytes
    → take (length bytes) (take size (written (take size bytes) cell) ++ rest) ≡ bytes
front_and_rest size bytes cell rest e = elim
    (cases_lt (length bytes) size) [ inl short ↦ few (omega arith) | inr long ↦ many long ]
  where
    few : length bytes ≤ size → take (length bytes) (take size (written (take size bytes) cell) ++ rest) ≡ bytes
    few h = grind (arith, take_all, length-take, length-append, take-append-le, take-take, take_at)

    many : size ≤ length bytes → take (length bytes) (take size (written (take size bytes) cell) ++ rest) ≡ bytes
    many h =
        let front : length (take size bytes) ≡ size = length-take-le size bytes h in
        let whole : length bytes
        ≡ length (take size bytes) + length (drop size bytes) = omega (arith, front, length-drop size bytes) in
        rw (take_at (take size bytes) (drop (length (take size bytes)) cell) size front)
        (ap (λ k. take k (take size bytes ++ rest)) whole ∙ take-append-add (take size bytes)
        rest (length (drop size bytes)) ∙ ap (λ w. take size bytes ++ w) e ∙ take-append-drop size bytes)

-- what is stored in a run is read there
pub stored_back : (owner rank : ℕ → ℕ) (next : List ℕ) (label n at : ℕ) (bytes : List ℕ) (cells : List (List ℕ))
    → IsRun owner rank next label n at → length cells ≡ length next → length bytes ≤ SIZE * n
    → take (length bytes) (walked (stored next n at bytes cells) next n at) ≡ bytes
stored_back owner rank next label zero at [] cells run len le = refl
stored_back owner rank next label zero at (b ∷ bytes) cells run len le = absurd (omega arith)
stored_back owner rank next label (suc n) at bytes cells run len le =
    let now = set cells at (written (take SIZE bytes) (get_or cells at [])) in
    let kept : get_or (stored next n (get_or next at 0) (drop SIZE bytes) now) at []
    ≡ written (take SIZE bytes) (get_or cells at [])
    = stored_outside owner rank next label n (get_or next at 0) at (drop SIZE bytes) now run.3
    (λ o. omega (arith, run.2)) ∙ get_or-set_same cells at _ [] (omega (arith, run.0)) in
    rw kept (front_and_rest SIZE bytes (get_or cells at []) _ (stored_back owner rank next label n (get_or next at 0)
    (drop SIZE bytes) now run.3 (length-set cells at _ ∙ len) (omega (arith, length-drop SIZE bytes))))
