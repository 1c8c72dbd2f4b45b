-- The homes of a board's structures, as passes come home.
use Rattle.plex_board.proofs.Imports.{◌≡◌, ℕ, suc, zero, ◌<◌, List, [], ◌∷◌, ◌++◌, length, get_or, map, refl, sym, ap, subst, ◌∙◌, arith, append_assoc, All, slice_get, Some, length-append, append-nil, All-push, All-head, All-tail, slice_get_within, ConnId, AnyHistory, OfCache, PassShown, CellShown, IsPassOf, DeskShown, fixed_of, IsClosed, IsAccount, fixed_at, each_with, HomeShown, home_with, Fits, homes_gathered, AllFit, IsHomeOf, AreHomes, AreEnded, length-map}
use Rattle.plex_board.proofs.RowLaws.{each_with-length, each-of-map}

-- a home has what it had, and then each desk's pass
row-at : (passes : List PassShown) (homes : List HomeShown) (x : ℕ) (p : PassShown) (d : HomeShown)
    → x < length passes → x < length homes
    → (get_or (each_with home_with passes homes) x d).passes ≡ (get_or homes x d).passes ++ get_or passes x p ∷ []
row-at [] homes x p d low below = absurd (omega (arith, low))
row-at (pass ∷ passes) [] x p d low below = absurd (omega (arith, below))
row-at (pass ∷ passes) (home ∷ homes) zero p d low below = refl
row-at (pass ∷ passes) (home ∷ homes) (suc x) p d low below =
    row-at passes homes x p d (omega (arith, low)) (omega (arith, below))

module _ {L : Type 0} where
  -- what is fixed of a desk's passes, one for each of these cells
  abbrev HasPasses : List (CellShown L) → DeskShown → Type 0
  HasPasses cells desk = map fixed_of desk.passes ≡ map (λ (cell : CellShown L). fixed_at cell desk.owner) cells

  -- ---- a pass more in each home

  one_home : (more : ℕ) (cell : CellShown L) (home : HomeShown) (pass : PassShown) → IsHomeOf (suc more) cell home
      → IsPassOf cell pass → IsHomeOf more cell (home_with pass home)
  one_home more cell home pass is of = record {
    type_is = is.type_is;
    passes = All-push (IsPassOf cell) home.passes pass is.passes of;
    room = simp length-append (omega (arith, is.room));
  }

  homes-row : (more : ℕ) (cells : List (CellShown L)) (homes : List HomeShown) (passes : List PassShown)
      (owner : ConnId) → AreHomes (suc more) cells homes → HasPasses cells (record { owner = owner; passes = passes })
      → Fits passes homes × AreHomes more cells (each_with home_with passes homes)
  homes-row more [] [] [] owner are of = (tt, tt)
  homes-row more (cell ∷ cells) (home ∷ homes) (pass ∷ passes) owner are of =
      let one : fixed_of pass ≡ fixed_at cell owner = cc in
      let rest : map fixed_of passes ≡ map (λ (c : CellShown L). fixed_at c owner) cells = cc in
      let of_cell : IsPassOf cell pass = (ap (λ f. f.str_type) one, ap (λ f. f.words) one) in
      let so = homes-row more cells homes passes owner are.1 rest in (
        (of_cell.0 ∙ sym are.0.type_is, omega (arith, are.0.room), so.0),
        (one_home more cell home pass are.0 of_cell, so.1),
      )
  homes-row more _ _ _ owner are of = grind arith

  pub count-of-homes : (more : ℕ) (cells : List (CellShown L)) (homes : List HomeShown) → AreHomes more cells homes
      → length homes ≡ length cells
  count-of-homes more [] [] are = refl
  count-of-homes more (cell ∷ cells) (home ∷ homes) are = ap (λ n. suc n) (count-of-homes more cells homes are.1)
  count-of-homes more _ _ are = absurd are

  -- ---- the passes of all desks come home

  pub homes-gathered : (cells : List (CellShown L)) (desks : List DeskShown) (homes : List HomeShown)
      → AreHomes (length desks) cells homes → All (HasPasses cells) desks
      → AllFit desks homes × AreHomes 0 cells (homes_gathered desks homes)
  homes-gathered cells [] homes are of = (tt, are)
  homes-gathered cells (desk ∷ desks) homes are of =
      let one = homes-row (length desks)
      cells homes desk.passes desk.owner are (All-head (HasPasses cells) desk desks of) in
      let rest = homes-gathered
      cells desks (each_with home_with desk.passes homes) one.1 (All-tail (HasPasses cells) desk desks of) in
      ((one.0, rest.0), rest.1)

  gathered-at : (cells : List (CellShown L)) (desks : List DeskShown) (homes : List HomeShown) (x : ℕ)
      (p : PassShown) (d : HomeShown) → x < length cells → length homes ≡ length cells → All (HasPasses cells) desks
      → (get_or (homes_gathered desks homes) x d).passes ≡ (get_or homes x d).passes ++ map
      (λ (desk : DeskShown). get_or desk.passes x p) desks
  gathered-at cells [] homes x p d below same of = sym (append-nil _)
  gathered-at cells (desk ∷ desks) homes x p d below same of =
      let fixed : HasPasses cells desk = All-head (HasPasses cells) desk desks of in
      let count : length desk.passes ≡ length cells = grind (arith, length-map) in
      let row : List HomeShown = each_with home_with desk.passes homes in
      let size : length row ≡ length cells = each_with-length home_with desk.passes homes (count ∙ sym same) ∙ same in
      let low : x < length desk.passes = omega (arith, count, below) in
      let high : x < length homes = omega (arith, same, below) in
      gathered-at cells desks row x p d below size (All-tail (HasPasses cells) desk desks of)
      ∙ ap (λ front. front ++ map (λ (desk : DeskShown). get_or desk.passes x p) desks)
      (row-at desk.passes homes x p d low high) ∙ append_assoc (get_or homes x d).passes
      (get_or desk.passes x p ∷ []) (map (λ (desk : DeskShown). get_or desk.passes x p) desks)

  -- ---- what the histories say

  ended-at : (cells : List (CellShown L)) (homes : List HomeShown) (histories : List AnyHistory) (x : ℕ)
      (cell : CellShown L) (entries : AnyHistory) (d : HomeShown)
      → AreEnded cells homes histories → slice_get cells x ≡ Some cell → slice_get histories x ≡ Some entries
      → IsClosed cell entries × All (IsAccount cell entries) (get_or homes x d).passes
  ended-at (one ∷ cells) (home ∷ homes) (first ∷ histories) zero cell entries d are at its = grind arith
  ended-at (one ∷ cells) (home ∷ homes) (first ∷ histories) (suc x) cell entries d are at its =
      ended-at cells homes histories x cell entries d are.2 at its
  ended-at [] homes histories x cell entries d are at its = absurd (cc)
  ended-at _ _ _ x cell entries d are at its = absurd are

  pub count-of-histories : (cells : List (CellShown L)) (homes : List HomeShown) (histories : List AnyHistory)
      → AreEnded cells homes histories → length histories ≡ length cells
  count-of-histories [] [] [] are = refl
  count-of-histories (cell ∷ cells) (home ∷ homes) (first ∷ histories) are =
      ap (λ n. suc n) (count-of-histories cells homes histories are.2)
  count-of-histories _ _ _ are = absurd are

  -- what is said of the passes that came home is said of the desks
  pub accounts-at : (cells : List (CellShown L)) (desks : List DeskShown) (homes : List HomeShown)
      (histories : List AnyHistory) (x : ℕ) (cell : CellShown L) (entries : AnyHistory) (p : PassShown)
      → length homes ≡ length cells → All (λ (home : HomeShown). home.passes ≡ []) homes
      → All (HasPasses cells) desks → AreEnded cells (homes_gathered desks homes) histories
      → slice_get cells x ≡ Some cell → slice_get histories x ≡ Some entries → IsClosed cell entries
      × All (λ (desk : DeskShown). IsAccount cell entries (get_or desk.passes x p)) desks
  accounts-at cells desks homes histories x cell entries p same empty of are at its =
      let d : HomeShown = record { str_type = OfCache; passes = []; room = 0 } in
      let below : x < length cells = slice_get_within cells x cell at in
      let lower : x < length homes = omega (arith, same, below) in
      let none : (get_or homes x d).passes ≡ [] = empty x d lower in
      let here : (get_or (homes_gathered desks homes) x d).passes
      ≡ map (λ (desk : DeskShown). get_or desk.passes x p) desks = gathered-at cells desks homes x p d below same of
      ∙ ap (λ front. front ++ map (λ (desk : DeskShown). get_or desk.passes x p) desks) none in
      let said : IsClosed cell entries × All (IsAccount cell entries) (get_or (homes_gathered desks homes) x d).passes =
      ended-at cells (homes_gathered desks homes) histories x cell entries d are at its in (
        said.0,
        each-of-map (IsAccount cell entries) (λ (desk : DeskShown). get_or desk.passes x p) desks
            (subst (All (IsAccount cell entries)) here said.1),
      )
