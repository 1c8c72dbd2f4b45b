-- What a chain more, or one less, does to a pool.
use Rattle.cf_pool.proofs.Imports.{◌≡◌, ◌≢◌, ℕ, zero, suc, ◌+◌, ◌-◌, ◌*◌, ◌<◌, ◌≤◌, ◌⊎◌, inl, inr, Bool, true, false, ◌&&◌, cond, eqb, leb, List, [], Option, None, Some, map, take, drop, length, get_or, set, sum_by, sum, subst, sym, refl, ap, ◌∙◌, arith, get_or-set_same, get_or-set_other, length-set, zero-add, replicate, enumerate_from, slice_get, and_from, and_left, and_right, eq-eqb, ne_eqb, le-leb, lt-leb, cases_lt, eqb_tells, same_lists, length-replicate, get_or-replicate, get_or_past, get_or-map, length-map, length-take, length-take-le, length-drop, length-append, get_or-enumerate_from, length-enumerate_from, sum_by-replicate, sum_by-set, sum-map, slice_get-get_or, get_or_from_slice_get, slice_get_past, SIZE, need_of, behind, IsWithin, walked, written, stored, chain_at, chains_in, IsRun, IsShared, need_at, need_in, IsChain}
use Rattle.cf_pool.proofs.WalkLaws.{within_fewer}
use Rattle.cf_pool.proofs.RunLaws.{within_run, kept_run, front_run, back_run, last_run, joined_run, same_walk, stored_outside, length-stored, stored_back}

-- ---- the view

length-chains : (cells : List (List ℕ)) (next lens : List ℕ) → length (chains_in cells next lens) ≡ length lens
length-chains cells next lens = length-map (enumerate_from 0 lens) _ ∙ length-enumerate_from 0 lens

pub chain_is : (cells : List (List ℕ)) (next lens : List ℕ) (k : ℕ) (d : Option (List ℕ)) → k < length lens
    → get_or (chains_in cells next lens) k d ≡ chain_at cells next k (get_or lens k 0)
chain_is cells next lens k d h = get_or-map (λ p. chain_at cells next p.0 p.1) (enumerate_from 0 lens)
    k (0, 0) d (omega (arith, length-enumerate_from 0 lens)) ∙ ap (λ p. chain_at cells next p.0 p.1)
    (get_or-enumerate_from 0 lens k (0, 0) h) ∙ ap (λ j. chain_at cells next j (get_or lens k 0)) (zero-add k)

-- another length at one element, where all other chains stay
set_chain : (cells cells' : List (List ℕ)) (next next' lens : List ℕ) (at l : ℕ) → at < length lens → ((k : ℕ)
    → k < length lens → k ≢ at → chain_at cells' next' k (get_or lens k 0) ≡ chain_at cells next k (get_or lens k 0))
    → chains_in cells' next' (set lens at l) ≡ set (chains_in cells next lens) at (chain_at cells' next' at l)
set_chain cells cells' next next' lens at l lt others =
    grind (arith, length-set, length-chains, same_lists, chain_is, eqb_tells, get_or-set_same, get_or-set_other)

other_chain : (owner rank : ℕ → ℕ) (cells cells' : List (List ℕ)) (next next' : List ℕ) (label at l : ℕ)
    → ((x : ℕ) → owner x ≡ label → (get_or cells' x [] ≡ get_or cells x []) × (get_or next' x 0 ≡ get_or next x 0))
    → (0 < l → IsRun owner rank next label (need_of l) at) → chain_at cells' next' at l ≡ chain_at cells next at l
other_chain owner rank cells cells' next next' label at zero same run = refl
other_chain owner rank cells cells' next next' label at (suc l) same run = grind (arith, same_walk)

pub chain_some : (cells : List (List ℕ)) (next : List ℕ) (at l : ℕ) → 0 < l
    → chain_at cells next at l ≡ Some (take l (walked cells next (need_of l) at))
chain_some cells next at zero h = absurd (omega arith)
chain_some cells next at (suc l) h = refl

-- each element has its bytes still
pub stored_whole : (next : List ℕ) (n at : ℕ) (bytes : List ℕ) (cells : List (List ℕ)) → length cells ≡ length next
    → IsWithin next n at → ((x : ℕ) → x < length next → length (get_or cells x []) ≡ SIZE)
    → (x : ℕ) → x < length next → length (get_or (stored next n at bytes cells) x []) ≡ SIZE
stored_whole next zero at bytes cells same within whole x h = whole x h
stored_whole next (suc n) at bytes cells same within whole x h = stored_whole next n (get_or next at 0)
    (drop SIZE bytes) _ (length-set cells at _ ∙ same) within.1 (λ y k. elim (eqb_tells y at) [
      | inl e ↦ subst (λ z. length (get_or (set cells at (written (take SIZE bytes) (get_or cells at [])))
          z []) ≡ SIZE) (sym e.1) (rw (get_or-set_same cells
          at (written (take SIZE bytes) (get_or cells at [])) [] (omega (arith, same, within.0))) (length_written
          (take SIZE bytes) (get_or cells at []) (omega (arith, length-take SIZE bytes)) (whole at within.0)))
      | inr e ↦ rw (get_or-set_other cells at y (written (take SIZE bytes) (get_or cells at [])) [] e.1) (whole y k)
    ]) x h
  where
    length_written : (part cell : List ℕ) → length part ≤ SIZE → length cell ≡ SIZE → length (written part cell) ≡ SIZE
    length_written part cell le e = omega
        (arith, length-append part (drop (length part) cell), length-drop (length part) cell)

length-walked : (cells : List (List ℕ)) (next : List ℕ) → length cells ≡ length next → ((x : ℕ) → x < length next →
    length (get_or cells x []) ≡ SIZE) → (n at : ℕ) → IsWithin next n at → length (walked cells next n at) ≡ n * SIZE
length-walked cells next same whole zero at within = refl
length-walked cells next same whole (suc n) at within =
    let rest = length-walked cells next same whole n (get_or next at 0) within.1 in
    let here = length-take-le SIZE (get_or cells at []) (omega (arith, whole at within.0)) in
    omega (arith, length-append (take SIZE (get_or cells at [])) (walked cells next n (get_or next at 0)), rest, here)

stored_at : {A : Type 0} (xs : List A) (at : ℕ) (y : A) → at < length xs → slice_get (set xs at y) at ≡ Some y
stored_at xs at y h =
    slice_get-get_or (set xs at y) at y (omega (arith, h, length-set xs at y)) ∙ ap Some (get_or-set_same xs at y y h)

-- ---- a chain more

module _ (owner rank : ℕ → ℕ) (label f new : ℕ) where
  abbrev is_taken : ℕ → Bool
  is_taken x = eqb (owner x) label && leb f (rank x)

  abbrev taken_owner : ℕ → ℕ
  taken_owner x = cond (is_taken x) new (owner x)

  abbrev taken_rank : ℕ → ℕ
  taken_rank x = cond (is_taken x) (rank x - f) (rank x)

  taken : (x : ℕ) → owner x ≡ label → f ≤ rank x → (taken_owner x ≡ new) × (taken_rank x + f ≡ rank x)
  taken x o r = grind (arith, and_from, eq-eqb, le-leb)

  untaken : (x : ℕ) → is_taken x ≡ false → (taken_owner x ≡ owner x) × (taken_rank x ≡ rank x)
  untaken x test = (rw test refl, rw test refl)

  of_others : (x k : ℕ) → owner x ≡ k → k ≢ label → (taken_owner x ≡ k) × (taken_rank x ≡ rank x)
  of_others x k o ne =
      let same = untaken x (and_left _ _ (ne_eqb _ _ (λ e. ne (sym o ∙ e)))) in (same.0 ∙ o, same.1)

  of_rest : (x : ℕ) → owner x ≡ label → rank x < f → (taken_owner x ≡ label) × (taken_rank x ≡ rank x)
  of_rest x o r = let same = untaken x (and_right _ _ (lt-leb _ _ r)) in (same.0 ∙ o, same.1)

first_of : (owner rank : ℕ → ℕ) (next : List ℕ) (label n at : ℕ) → 0 < n → IsRun owner rank next label n at
    → (at < length next) × (owner at ≡ label)
first_of owner rank next label zero at h run = absurd (omega arith)
first_of owner rank next label (suc n) at h run = (run.0, run.1)

module _ (cells : List (List ℕ)) (next lens : List ℕ) (head free : ℕ) (s : IsShared cells next lens head free) where
  -- no chain begins at a free element
  pub head_empty : 0 < free → (head < length next) × (get_or lens head 0 ≡ 0)
  head_empty some = grind (arith, go)
    where
      go : (l : ℕ) → get_or lens head 0 ≡ l → head < length next → s.owner head ≡ length next → l ≡ 0
      go zero e lt o = refl
      go (suc l) e lt o =
          let run = s.chain_runs head lt (omega (arith, e)) in
          let own = first_of s.owner s.rank next head (need_of (get_or lens head 0)) head (omega (arith, e)) run in
          absurd (omega (arith, own.1, o))

  module _ (l : ℕ) (some : 0 < l) (few : l ≤ 4096) (n : ℕ) (is : n ≡ need_of l) (le : n ≤ free) where
    pub put_shared : (cells' : List (List ℕ)) → length cells' ≡ length next → ((x : ℕ) → x < length next
        → length (get_or cells' x []) ≡ SIZE) → IsShared cells' next (set lens head l) (behind next n head) (free - n)
    put_shared cells' same_cells whole =
        let empty = head_empty (omega (arith, is)) in
        let f : ℕ = free - n in
        let parts : free ≡ n + f = omega arith in
        record {
          owner = taken_owner s.owner s.rank (length next) f head;
          rank = taken_rank s.owner s.rank (length next) f head;
          all_cells = same_cells;
          all_lens = length-set lens head l ∙ s.all_lens;
          few = s.few;
          whole = whole;
          short = λ at. set_short at (eqb_tells at head);
          free_run = kept_run s.owner s.rank _ _ next next (length next) f f (behind next n head) refl
              (λ x o r. (let k = of_rest s.owner s.rank (length next) f head x o r in (k.0, k.1, refl))) (omega arith)
              (back_run s.owner s.rank next (length next) f free n head parts s.free_run);
          chain_runs = λ at lt len. set_runs at (eqb_tells at head) lt len;
          all = omega (
            arith,
            sum_by-set need_of lens head l 0 (omega (arith, s.all_lens, empty.0)),
            ap need_of empty.1,
            s.all,
          );
        }
      where
        lt_lens : head < length lens
        lt_lens = omega (arith, s.all_lens, (head_empty (omega (arith, is))).0)

        set_short : (at : ℕ) → ((eqb at head ≡ true) × (at ≡ head)) ⊎ ((eqb at head ≡ false) × (at ≢ head))
            → get_or (set lens head l) at 0 ≤ 4096
        set_short at (inl e) = subst (λ k. get_or (set lens head l) k 0 ≤ 4096) (sym e.1)
            (rw (get_or-set_same lens head l 0 lt_lens) few)
        set_short at (inr e) = rw (get_or-set_other lens head at l 0 e.1) (s.short at)

        set_runs : (at : ℕ) → ((eqb at head ≡ true) × (at ≡ head))
            ⊎ ((eqb at head ≡ false) × (at ≢ head)) → at < length next → 0 < get_or (set lens head l) at 0
            → IsRun (taken_owner s.owner s.rank (length next) (free - n) head) (taken_rank
            s.owner s.rank (length next) (free - n) head) next at (need_of (get_or (set lens head l) at 0)) at
        set_runs at (inl e) lt len = subst (λ k. IsRun (taken_owner s.owner s.rank (length next) (free - n) head)
            (taken_rank s.owner s.rank (length next) (free - n) head)
            next k (need_of (get_or (set lens head l) k 0)) k) (sym e.1) (rw (get_or-set_same lens head l 0 lt_lens)
            (front_run s.owner s.rank _ _ next (length next) head (free - n) free (need_of l)
            head (omega (arith, is, le)) (taken s.owner s.rank (length next) (free - n) head) s.free_run))
        set_runs at (inr e) lt len = grind (arith, get_or-set_other, kept_run, of_others)

    pub put_chains : (bytes : List ℕ) → length bytes ≡ l → chains_in
        (stored next n head bytes cells) next (set lens head l) ≡ set (chains_in cells next lens) head (Some bytes)
    put_chains bytes len =
        let cells' = stored next n head bytes cells in
        let run = front_run s.owner s.rank _ _ next (length next) head (free - n) free n head (omega (arith, le))
        (taken s.owner s.rank (length next) (free - n) head) s.free_run in
        let back = stored_back _ _ next head n head bytes cells run s.all_cells (omega (arith, is, len)) in
        let new : chain_at cells' next head l ≡ Some bytes
        = chain_some cells' next head l some ∙ ap (λ k. Some (take l (walked cells' next k head))) (sym is)
        ∙ ap (λ k. Some (take k (walked cells' next n head))) (sym len) ∙ ap Some back in
        subst (λ y. chains_in cells' next (set lens head l) ≡ set (chains_in cells next lens) head y) new
        (set_chain cells cells' next next lens head l (omega (arith, s.all_lens, (head_empty (omega (arith, is))).0))
        (λ k h ne. other_chain s.owner s.rank cells cells' next next k k (get_or lens k 0) (λ x o. (let there =
        of_others s.owner s.rank (length next) (free - n) head x k o (omega (arith, s.all_lens, h)) in
        (stored_outside _ _ next head n head x bytes cells run (λ own. absurd (ne (sym there.0 ∙ own))), refl)))
        (s.chain_runs k (omega (arith, s.all_lens, h)))))

  -- ---- a chain less

  module _ (at : ℕ) (lt : at < length next) (some : 0 < get_or lens at 0) (n : ℕ)
      (is : n ≡ need_of (get_or lens at 0)) where
    pub run_at : IsRun s.owner s.rank next at n at
    run_at = subst (λ k. IsRun s.owner s.rank next at k at) (sym is) (s.chain_runs at lt some)

    last : ℕ
    last = behind next (n - 1) at

    abbrev owner' : ℕ → ℕ
    owner' x = cond (eqb (s.owner x) at) (length next) (s.owner x)

    abbrev rank' : ℕ → ℕ
    rank' x = cond (eqb (s.owner x) at) (s.rank x + free) (s.rank x)

    its_own : (x : ℕ) → s.owner x ≡ at → (owner' x ≡ length next) × (rank' x ≡ s.rank x + free)
    its_own x o = let test = eq-eqb _ _ o in (rw test refl, rw test refl)

    not_its_own : (x k : ℕ) → s.owner x ≡ k → k ≢ at → (owner' x ≡ k) × (rank' x ≡ s.rank x)
    not_its_own x k o ne = let test = ne_eqb _ _ (λ e. ne (sym o ∙ e)) in (rw test o, rw test refl)

    one : n ≡ suc (n - 1)
    one = omega (arith, is, some)

    pub last_is : (behind next (n - 1) at < length next) × (s.owner (behind next (n - 1) at) ≡ at)
        × (s.rank (behind next (n - 1) at) ≡ 0)
    last_is = last_run s.owner s.rank next at (n - 1) at (subst (λ k. IsRun s.owner s.rank next at k at) one run_at)

    -- the links of others are as they were
    link : (x k : ℕ) → s.owner x ≡ k → k ≢ at → get_or (set next (behind next (n - 1) at) head) x 0 ≡ get_or next x 0
    link x k o ne = get_or-set_other next _ x head 0 (λ e. ne (sym o ∙ ap s.owner e ∙ last_is.1))

    pub give_shared : IsShared cells (set next (behind next (n - 1) at) head) (set lens at 0) at (free + n)
    give_shared =
        let links = length-set next (behind next (n - 1) at) head in
        record {
          owner = owner';
          rank = rank';
          all_cells = s.all_cells ∙ sym links;
          all_lens = length-set lens at 0 ∙ s.all_lens ∙ sym links;
          few = omega (arith, s.few, links);
          whole = λ x h. s.whole x (omega (arith, links, h));
          short = λ x. set_short x (eqb_tells x at);
          free_run = rw links (subst (λ k. IsRun owner' rank' (set next (behind next (n - 1) at) head) (length next)
              k at) (omega (arith, one)) (joined_run s.owner s.rank owner' rank' next _ at (length next) free
              (n - 1) at (behind next (n - 1) at) head links its_own (λ x ne. get_or-set_other next _ x head 0 ne)
              (get_or-set_same next _ head 0 last_is.0) (kept_run s.owner s.rank owner' rank' next _ (length next)
              free free head links (λ x o r. (let k = not_its_own x (length next) o (omega (arith, lt)) in
              (k.0, k.1, link x (length next) o (omega (arith, lt))))) (omega arith) s.free_run)
              last_is.2 (subst (λ k. IsRun s.owner s.rank next at k at) one run_at) refl));
          chain_runs = λ x h len. set_runs x (eqb_tells x at) (omega (arith, links, h)) len;
          all = omega (arith, sum_by-set need_of lens at 0 0 (omega (arith, s.all_lens, lt)), s.all, is, links);
        }
      where
        lt_lens : at < length lens
        lt_lens = omega (arith, s.all_lens, lt)

        set_short : (x : ℕ) → ((eqb x at ≡ true) × (x ≡ at)) ⊎ ((eqb x at ≡ false) × (x ≢ at))
            → get_or (set lens at 0) x 0 ≤ 4096
        set_short x (inl e) = subst (λ k. get_or (set lens at 0) k 0 ≤ 4096) (sym e.1)
            (rw (get_or-set_same lens at 0 0 lt_lens) (omega arith))
        set_short x (inr e) = rw (get_or-set_other lens at x 0 0 e.1) (s.short x)

        set_runs : (x : ℕ) → ((eqb x at ≡ true) × (x ≡ at)) ⊎ ((eqb x at ≡ false) × (x ≢ at))
            → x < length next → 0 < get_or (set lens at 0) x 0
            → IsRun owner' rank' (set next (behind next (n - 1) at) head) x (need_of (get_or (set lens at 0) x 0)) x
        set_runs x (inl e) h len = grind (arith, get_or-set_same, lt_lens)
        set_runs x (inr e) h len = grind (arith, get_or-set_other, kept_run, length-set, not_its_own, link)

    pub give_chains : chains_in cells (set next (behind next (n - 1) at) head) (set lens at 0)
        ≡ set (chains_in cells next lens) at None
    give_chains = set_chain cells
        cells next _ lens at 0 (omega (arith, s.all_lens, lt)) (λ k h ne. other_chain s.owner s.rank cells cells
        next _ k k (get_or lens k 0) (λ x o. (refl, link x k o ne)) (s.chain_runs k (omega (arith, s.all_lens, h))))

  -- ---- what a chain is

  -- it has as many bytes as its length says
  pub chain_length : (at : ℕ) → at < length next
      → need_at (chain_at cells next at (get_or lens at 0)) ≡ need_of (get_or lens at 0)
  chain_length at lt = go (get_or lens at 0) (s.chain_runs at lt)
    where
      go : (l : ℕ) → (0 < l → IsRun s.owner s.rank next at (need_of l) at)
          → need_at (chain_at cells next at l) ≡ need_of l
      go zero run = refl
      go (suc l) run = ap need_of (length-take-le (suc l) (walked cells next (need_of (suc l)) at) (omega (
        arith,
        length-walked cells next s.all_cells s.whole (need_of (suc l)) at
            (within_run s.owner s.rank next at (need_of (suc l)) at (run (omega arith))),
      )))

  pub all_chains : sum_by need_at (chains_in cells next lens) + free ≡ length (chains_in cells next lens)
  all_chains =
      let count = length-chains cells next lens in
      let same : map need_at (chains_in cells next lens) ≡ map need_of lens
      = same_lists _ _ (length-map (chains_in cells next lens) need_at ∙ count ∙ sym (length-map lens need_of))
      (λ k d h. (let within : k < length lens = omega
      (arith, h, count, length-map (chains_in cells next lens) need_at) in
      get_or-map need_at (chains_in cells next lens) k None d (omega (arith, within, count))
      ∙ ap need_at (chain_is cells next lens k None within) ∙ chain_length k (omega (arith, within, s.all_lens))
      ∙ sym (get_or-map need_of lens k 0 d within))) in
      omega (
        arith,
        s.all,
        s.all_lens,
        count,
        ap sum same,
        sum-map need_at (chains_in cells next lens),
        sum-map need_of lens,
      )

  -- where a chain begins
  pub chain_there : (at : ℕ) (bytes : List ℕ) → slice_get (chains_in cells next lens) at ≡ Some (Some bytes)
      → (at < length next) × (0 < get_or lens at 0)
      × (bytes ≡ take (get_or lens at 0) (walked cells next (need_of (get_or lens at 0)) at))
  chain_there at bytes h = elim (cases_lt at (length lens)) [
    | inl lt ↦ (let here : chain_at cells next at (get_or lens at 0) ≡ Some bytes
        = sym (chain_is cells next lens at None lt)
        ∙ get_or_from_slice_get (chains_in cells next lens) at (Some bytes) None h in
        let found = go (get_or lens at 0) here in (omega (arith, lt, s.all_lens), found.0, found.1))
    | inr past ↦ absurd (let none = slice_get_past (chains_in cells next lens) at
        (omega (arith, past, length-chains cells next lens)) in cc)
  ]
    where
      go : (l : ℕ) → chain_at cells next at l ≡ Some bytes
          → (0 < l) × (bytes ≡ take l (walked cells next (need_of l) at))
      go zero e = absurd (cc)
      go (suc l) e = (omega arith, cc)

  -- ---- what the code does

  pub free_within : (n : ℕ) → n ≤ free → IsWithin next n head
  free_within n le = within_fewer next free n head le
      (within_run s.owner s.rank next (length next) free head s.free_run)

  pub chain_within : (at : ℕ) → at < length next → 0 < get_or lens at 0 → IsWithin next (need_of (get_or lens at 0)) at
  chain_within at lt some = within_run s.owner s.rank next at (need_of (get_or lens at 0)) at (s.chain_runs at lt some)

  module _ (bytes : List ℕ) (some : 1 ≤ length bytes) (few : length bytes ≤ 4096)
      (room : need_of (length bytes) ≤ free) (n rest : ℕ) (cells' : List (List ℕ)) (is : n ≡ need_of (length bytes))
      (stores : cells' ≡ stored next n head bytes cells) (follows : rest ≡ behind next n head) where
    pub fill_first : head < length lens
    fill_first = omega (arith, s.all_lens, (head_empty (omega (arith, some, room))).0)

    pub fill_shared : IsShared cells' next (set lens head (length bytes)) rest (free - need_of (length bytes))
    fill_shared = grind (arith, put_shared, length-stored, stored_whole, free_within)

    pub fill_chains : chains_in cells' next (set lens head (length bytes))
        ≡ set (chains_in cells next lens) head (Some bytes)
    fill_chains = grind (arith, put_chains)

    pub fill_fresh : slice_get (chains_in cells next lens) head ≡ Some None
    fill_fresh =
        let empty = (head_empty (omega (arith, some, room))).1 in
        slice_get-get_or (chains_in cells next lens) head None (omega (
          arith,
          fill_first,
          length-chains cells next lens,
        )) ∙ ap Some (chain_is cells next lens head None fill_first ∙ ap (chain_at cells next head) empty)

    pub fill_stored : slice_get (chains_in cells' next (set lens head (length bytes))) head ≡ Some (Some bytes)
    fill_stored = grind (arith, fill_chains, stored_at, fill_first, length-chains)

  module _ (at : ℕ) (h : IsChain (chains_in cells next lens) at) where
    abbrev there : (at < length next) × (0 < get_or lens at 0)
        × (h.0 ≡ take (get_or lens at 0) (walked cells next (need_of (get_or lens at 0)) at))
    there = chain_there at h.0 h.1

    pub at_lens : at < length lens
    at_lens = omega (arith, s.all_lens, there.0)

    pub at_some : (n : ℕ) → n ≡ need_of (get_or lens at 0) → 0 < n
    at_some n is = omega (arith, there.1, is)

    pub at_within : IsWithin next (need_of (get_or lens at 0)) at
    at_within = chain_within at there.0 there.1

    pub at_need : need_of (get_or lens at 0) ≡ need_in (chains_in cells next lens) at
    at_need = sym (ap need_at (chain_is cells next lens at None at_lens) ∙ chain_length at there.0)

    pub at_bytes : slice_get (chains_in cells next lens) at
        ≡ Some (Some (take (get_or lens at 0) (walked cells next (need_of (get_or lens at 0)) at)))
    at_bytes = h.1 ∙ ap (λ b. Some (Some b)) there.2

    module _ (n last : ℕ) (is : n ≡ need_of (get_or lens at 0)) (ends : last ≡ behind next (n - 1) at) where
      pub unlink_last : last < length next
      unlink_last = subst (λ x. x < length next) (sym ends) (last_is at there.0 there.1 n is).0

      pub unlink_shared : IsShared cells (set next last head) (set lens at 0) at (free + n)
      unlink_shared = subst (λ x. IsShared cells (set next x head) (set lens at 0) at (free + n))
          (sym ends) (give_shared at there.0 there.1 n is)

      pub unlink_chains : chains_in cells (set next last head) (set lens at 0) ≡ set (chains_in cells next lens) at None
      unlink_chains =
          ap (λ x. chains_in cells (set next x head) (set lens at 0)) ends ∙ give_chains at there.0 there.1 n is

-- ---- no chain yet

pub new_shared : (cells : List (List ℕ)) (next lens : List ℕ) (n : ℕ) → length cells ≡ n → lens ≡ replicate n 0
    → length next ≡ n → n < 4294967296 → ((x : ℕ) → x < length cells → length (get_or cells x []) ≡ SIZE)
    → ((k : ℕ) → k < n → get_or next k 0 ≡ k + 1) → IsShared cells next lens 0 n
new_shared cells next lens n all none len few whole links = record {
  owner = λ x. length next;
  rank = λ x. n - 1 - x;
  all_cells = all ∙ sym len;
  all_lens = ap length none ∙ length-replicate n 0 ∙ sym len;
  few = omega (arith, len, few);
  whole = λ x h. whole x (omega (arith, all, len, h));
  short = λ x. omega (arith, no_length x);
  free_run = run n 0 (omega arith);
  chain_runs = λ x h some. absurd (omega (arith, no_length x, some));
  all = omega (arith, ap (sum_by need_of) none, sum_by-replicate need_of n 0, len);
}
  where
    no_length : (x : ℕ) → get_or lens x 0 ≡ 0
    no_length x = grind (arith, cases_lt, get_or-replicate, get_or_past, length-replicate)

    run : (m at : ℕ) → at + m ≡ n → IsRun (λ x. length next) (λ x. n - 1 - x) next (length next) m at
    run zero at e = tt
    run (suc m) at e = (
      omega arith,
      refl,
      omega arith,
      subst (λ x. IsRun (λ x. length next) (λ x. n - 1 - x) next (length next) m x) (sym (links at (omega arith)))
          (run m (at + 1) (omega arith)),
    )

pub new_chains : (cells : List (List ℕ)) (next lens : List ℕ) (n : ℕ) → lens ≡ replicate n 0
    → chains_in cells next lens ≡ replicate n None
new_chains cells next lens n none =
    grind (arith, length-replicate, same_lists, length-chains, get_or-replicate, chain_is)
