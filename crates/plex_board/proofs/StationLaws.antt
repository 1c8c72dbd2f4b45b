-- What is known of the passes of a new cell, and of a caller that has called.
use Rattle.plex_board.proofs.Imports.{◌≡◌, ℕ, ◌+◌, ◌<◌, ◌≤◌, List, [], ◌∷◌, ◌++◌, length, map, sym, ap, ◌∙◌, arith, refl, All, Option, Some, None, IsSome, IfNone, range_with_len, length-append, length-map, length-range_with_len, All-pop, All-map, StrForm, Links, WordTable, StrType, type_of_kind, PassShown, unused_pass, CellShown, IsPassOf}

module _ {L : Type 0} {cell : CellShown L} {form : StrForm}
    {callers limit : ℕ} {links : Links L} {passes : List PassShown} (owners : List ℕ) (is : cell ≡ record {
      str_type = type_of_kind form.kind;
      form = form;
      callers = callers;
      limit = limit;
      words = cell.words;
      links = links;
    }) (are : passes ≡ map (unused_pass (type_of_kind form.kind) cell.words) owners) where
  -- the passes of a new cell, by the cell
  pub started-passes : passes ≡ map (unused_pass cell.str_type cell.words) owners
  started-passes =
      are ∙ ap (λ (t : StrType). map (unused_pass t cell.words) owners) (sym (ap (λ (c : CellShown L). c.str_type) is))

  -- they have seen nothing, and are of the cell
  pub new-of_cell : All (IsPassOf cell) passes
  new-of_cell = rw started-passes
      (All-map (IsPassOf cell) (unused_pass cell.str_type cell.words) owners (λ k d below. (refl, refl)))

  -- and so is the last of them
  pub last-of_cell : (front : List PassShown) (pass : PassShown) → passes ≡ front ++ pass ∷ [] → IsPassOf cell pass
  last-of_cell front pass last = (All-pop (IsPassOf cell) passes front (Some pass) last new-of_cell).1

-- one comes out of them
pub has-last : {A : Type 0} (last : Option A) (str_type : StrType) (words : WordTable) (passes left : List PassShown)
    (n : ℕ) → passes ≡ map (unused_pass str_type words) (range_with_len 0 (n + 1))
    → IfNone last ((passes ≡ []) × (left ≡ [])) → IsSome last
has-last (Some it) str_type words passes left n are none = refl
has-last None str_type words passes left n are none =
    let count : length passes ≡ n + 1 = ap length are
    ∙ length-map (range_with_len 0 (n + 1)) (unused_pass str_type words) ∙ length-range_with_len 0 (n + 1) in
    let empty : length passes ≡ 0 = ap length none.0 in
    absurd (omega (arith, count, empty))

-- there is room for it again
pub room-again : (str_type : StrType) (words : WordTable) (passes front : List PassShown) (pass : PassShown)
    (n most : ℕ) → passes ≡ map (unused_pass str_type words) (range_with_len 0 n) → passes ≡ front ++ pass ∷ []
    → n ≤ most → length front < most
room-again str_type words passes front pass n most are is room =
    let count : length passes ≡ n =
    ap length are ∙ length-map (range_with_len 0 n) (unused_pass str_type words) ∙ length-range_with_len 0 n in
    let more : length passes ≡ length front + 1 = ap length is ∙ length-append front (pass ∷ []) in
    omega (arith, count, more, room)
