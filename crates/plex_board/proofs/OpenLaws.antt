-- What is known as structures are made one after the other.
use Rattle.plex_board.proofs.Imports.{◌≡◌, ℕ, ◌+◌, ◌≤◌, List, [], ◌∷◌, ◌++◌, map, refl, sym, ap, subst, ◌∙◌, arith, All, map-append, All-push, All-nil, All-map, StrForm, Links, AnyPasses, StrType, type_of_kind, PassShown, unused_pass, passes_shown, type_of_passes, room_of, CellShown, WordTable, DeskShown, IsStarted, each_with, HomeShown, home_shown, homes_shown, IsHomeOf, AreHomes, AreEmpty, desk_with, desk_at, length, Rest, IsBegun, IsRoomy, IsReady, CONNECTORS, STRUCTURES}

-- a caller that has seen nothing hasn't called
pub unused-calls : (str_type : StrType) (words : WordTable) (passes : List PassShown) (owners : List ℕ)
    → passes ≡ map (unused_pass str_type words) owners → All (λ (pass : PassShown). pass.calls ≡ []) passes
unused-calls str_type words passes owners are = subst (All (λ (pass : PassShown). pass.calls ≡ [])) (sym are)
    (All-map (λ (pass : PassShown). pass.calls ≡ []) (unused_pass str_type words) owners (λ k d below. refl))

module _ {L : Type 0} where
  -- each desk with its pass to one structure more
  pub desks-column : (cells : List (CellShown L)) (cell : CellShown L) (owners : List ℕ)
      → each_with desk_with (map (unused_pass cell.str_type cell.words) owners) (map (desk_at cells) owners)
      ≡ map (desk_at (cells ++ cell ∷ [])) owners
  desks-column cells cell [] = refl
  desks-column cells cell (owner ∷ owners) = grind (arith, map-append, desks-column cells cell owners)

  pub homes-push : (more : ℕ) (cells : List (CellShown L)) (cell : CellShown L) (homes : List HomeShown)
      (home : HomeShown) → AreHomes more cells homes → IsHomeOf more cell home → AreHomes more (cells ++ cell ∷ [])
      (homes ++ home ∷ [])
  homes-push more [] cell [] home are is = (is, tt)
  homes-push more (one ∷ cells) cell (first ∷ homes) home are is =
      (are.0, homes-push more cells cell homes home are.1 is)
  homes-push more _ cell _ home are is = absurd are

  -- the cell of a new station
  pub started-cell : (cell : CellShown L) (form : StrForm) (callers limit : ℕ) (links : Links L) → cell ≡ record {
    str_type = type_of_kind form.kind;
    form = form;
    callers = callers;
    limit = limit;
    words = cell.words;
    links = links;
  } → (cell.words.conns ≡ callers) × (cell.words.len ≡ form.vector) → IsStarted callers limit cell
  started-cell cell form callers limit links is words = grind arith

  -- ---- one structure more

  module _ (cells more : List (CellShown L)) (cell : CellShown L) (more_is : more ≡ cells ++ cell ∷ []) where
    pub more-started : (callers limit : ℕ) → All (IsStarted callers limit) cells → IsStarted callers limit cell
        → All (IsStarted callers limit) more
    more-started callers limit all is =
        subst (All (IsStarted callers limit)) (sym more_is) (All-push (IsStarted callers limit) cells cell all is)

    pub more-desks : (owners : List ℕ) (passes : List PassShown) (desks after : List DeskShown)
        → desks ≡ map (desk_at cells) owners → passes ≡ map (unused_pass cell.str_type cell.words) owners
        → after ≡ each_with desk_with passes desks → after ≡ map (desk_at more) owners
    more-desks owners passes desks after are unused is = grind (arith, desks-column)

    module _ (homes after : List AnyPasses) (home : AnyPasses) (after_is : after ≡ homes ++ home ∷ []) where
      shown-push : homes_shown after ≡ homes_shown homes ++ home_shown home ∷ []
      shown-push = ap homes_shown after_is ∙ map-append home_shown homes (home ∷ [])

      pub more-homes : (n : ℕ) → AreHomes n cells (homes_shown homes) → IsHomeOf n cell (home_shown home)
          → AreHomes n more (homes_shown after)
      more-homes n are is = grind (arith, shown-push, homes-push)

      pub more-empty : AreEmpty (homes_shown homes) → passes_shown home ≡ [] → AreEmpty (homes_shown after)
      more-empty all none = subst AreEmpty (sym shown-push)
          (All-push (λ (h : HomeShown). h.passes ≡ []) (homes_shown homes) (home_shown home) all none)

  -- a home without passes
  pub empty-home : (n : ℕ) (cell : CellShown L) (home : AnyPasses) → type_of_passes home ≡ cell.str_type
      → passes_shown home ≡ [] → n ≤ room_of home → IsHomeOf n cell (home_shown home)
  empty-home n cell home is none room = grind (arith, All-nil)

  -- what an opening leaves, with the spare links in it, is ready for the end
  pub opened-ready : (callers : ℕ) (cells : List (CellShown L)) (rest after key : Rest L) → key ≡ after
      → IsBegun callers cells rest → callers ≤ CONNECTORS → length cells ≤ STRUCTURES
      → homes_shown after.homes.items ≡ homes_shown rest.homes.items → IsRoomy (length cells) after
      → IsReady cells callers key
  opened-ready callers cells rest after key is begun few_callers few same room =
      subst (IsReady cells callers) (sym is) (record {
        few = few;
        few_callers = few_callers;
        homes = subst (AreHomes (callers + 1) cells) (sym same) begun.homes;
        empty = subst AreEmpty (sym same) begun.empty;
        room = room;
      })
