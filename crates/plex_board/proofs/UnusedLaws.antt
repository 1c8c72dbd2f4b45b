-- Structures that nobody has called yet, as they end.
use Rattle.plex_board.proofs.Imports.{◌≡◌, ℕ, suc, ◌<◌, ◌≤◌, List, [], ◌∷◌, ◌++◌, length, get_or, map, All, refl, sym, ap, subst, ◌∙◌, arith, append_assoc, Option, Some, slice_get, flat_map, range_with_len, length-map, get_or-map, length-range_with_len, All-map, All-weaker, slice_get_within, get_or_from_slice_get, ConnId, Links, AreAsked, AnyHistory, any_calls, own_calls, any_answers, PassShown, unused_pass, CellShown, DeskShown, no_pass, fixed_of, IsClosed, IsAccount, AreEachAsked, four_of, fixed_at, Opening, HomeShown, homes_shown, AllFit, homes_gathered, AreHomes, AreEnded, IsOpening, IsUnused, desk_at}
use Rattle.plex_board.proofs.HomeLaws.{homes-gathered, accounts-at, count-of-homes}
use Rattle.plex_board.proofs.{UnusedPassLaws.unused_links, DeskLaws.new_desk-of_board, SightLaws.each_of}

module _ {L : Type 0} (asks : L → Option ℕ) (downs : L → Option (List ℕ)) (faults : L → ℕ) where
  -- where the links of each structure are as they were, all are
  each-same : (cells : List (CellShown L)) (histories : List AnyHistory) (spare links : List L)
      → AreEachAsked asks downs faults cells histories spare links
      → ((x : ℕ) (cell : CellShown L) (entries : AnyHistory) (handed : Links L) → slice_get cells x ≡ Some cell
      → slice_get histories x ≡ Some entries → AreAsked asks downs faults (any_answers cell.form entries) cell.links
      handed → handed ≡ cell.links) → links ≡ flat_map (λ (cell : CellShown L). four_of cell.links) cells ++ spare
  each-same [] histories spare links are same = are
  each-same (cell ∷ cells) [] spare links are same = absurd are
  each-same (cell ∷ cells) (entries ∷ histories) spare links are same =
      let f : CellShown L → List L = λ c. four_of c.links in
      let here : are.0 ≡ cell.links = same 0 cell entries are.0 refl refl are.3 in
      let rest : are.1 ≡ flat_map f cells ++ spare =
      each-same cells histories spare are.1 are.4 (λ x c e h at its. same (suc x) c e h at its) in
      are.2 ∙ ap (λ (four : Links L). four_of four ++ are.1) here ∙ ap (λ (others : List L). four_of cell.links
      ++ others) rest ∙ sym (append_assoc (four_of cell.links) (flat_map f cells) spare)

module _ {L : Type 0} (cells : List (CellShown L)) (homes : List HomeShown) (desks : List DeskShown)
    (is : IsUnused cells homes desks) where
  new-desks : All (λ (desk : DeskShown). map fixed_of desk.passes ≡ map (λ cell. fixed_at cell desk.owner) cells) desks
  new-desks =
      let P : DeskShown → Type 0 =
      λ desk. map fixed_of desk.passes ≡ map (λ (cell : CellShown L). fixed_at cell desk.owner) cells in
      subst (All P) (sym is.desks_are) (All-map P (desk_at cells) (range_with_len 0 (length desks)) (λ k d below.
      new_desk-of_board
      (record { cells = cells; callers = 0; spare = [] }) (get_or (range_with_len 0 (length desks)) k d)))

  pub unused-fits : AllFit desks homes
  unused-fits = (homes-gathered cells desks homes is.homes_are new-desks).0

  pub unused-homes : (after : List HomeShown) → after ≡ homes_gathered desks homes → AreHomes 0 cells after
  unused-homes after gathered =
      subst (AreHomes 0 cells) (sym gathered) (homes-gathered cells desks homes is.homes_are new-desks).1

  -- no caller has a call in a structure's history
  no-calls : (histories : List AnyHistory) (x : ℕ) (cell : CellShown L) (entries : AnyHistory) → slice_get
      cells x ≡ Some cell → All (λ (desk : DeskShown). IsAccount cell entries (get_or desk.passes x no_pass)) desks
      → (owner : ConnId) → owner.0 ≤ cell.callers → own_calls (any_calls entries) owner ≡ []
  no-calls histories x cell entries at accounts owner few =
      let here : get_or cells x cell ≡ cell = get_or_from_slice_get cells x cell cell at in
      let within : x < length cells = slice_get_within cells x cell at in
      let callers : (get_or cells x cell).callers < length desks = is.callers x cell within in
      let below : owner.0 < length desks = grind arith in
      let P : DeskShown → Type 0 = λ desk. IsAccount cell entries (get_or desk.passes x no_pass) in
      let account : P (desk_at cells owner.0) = each_of
      P (desk_at cells) 0 (length desks) owner.0 owner.0 (subst (All P) is.desks_are accounts) below (omega arith) in
      let unused : CellShown L → PassShown = λ c. unused_pass c.str_type c.words owner.0 in
      let pass : get_or (map unused cells) x no_pass ≡ unused cell =
      get_or-map unused cells x cell no_pass within ∙ ap unused here in
      grind arith

  -- all links come back as they were
  pub unused-links : (asks : L → Option ℕ) (downs : L → Option (List ℕ)) (faults : L → ℕ) (after : List HomeShown)
      (histories : List AnyHistory) (spare links : List L) → after ≡ homes_gathered desks homes
      → AreEnded cells after histories → AreEachAsked asks downs faults cells histories spare links
      → links ≡ flat_map (λ (cell : CellShown L). four_of cell.links) cells ++ spare
  unused-links asks downs faults after histories spare links gathered ended asked =
      let ended' : AreEnded cells (homes_gathered desks homes) histories =
      subst (λ (hs : List HomeShown). AreEnded cells hs histories) gathered ended in
      each-same asks downs faults cells histories spare links asked (λ x cell entries handed at its told.
      let said : IsClosed cell entries
      × All (λ (desk : DeskShown). IsAccount cell entries (get_or desk.passes x no_pass)) desks =
      accounts-at cells desks homes histories x cell entries no_pass
      (count-of-homes (length desks) cells homes is.homes_are) is.empty new-desks ended' at its in
      unused_links cell entries said.0.legal said.0.callers (no-calls histories x cell entries at said.1) told)

-- a board that is opened has no calls yet
pub opening-unused : {K L Cache List' Lock Item1 Order1 State1 Item2 Order2 State2 Item3 Order3 State3 : Type 0}
    (callers limit : ℕ) (opening : Opening K L Cache List' Lock Item1 Order1 State1 Item2 Order2 State2 Item3 Order3 State3)
    → IsOpening callers limit opening → IsUnused opening.stations.items (homes_shown opening.rest.homes.items) opening.desks.items
opening-unused callers limit opening is = grind (arith, length-map, length-range_with_len, All-weaker)

-- each new desk has room for one place more
pub desks-few : {L : Type 0} (cells : List (CellShown L)) (owners : List ℕ) (desks : List DeskShown) (most : ℕ)
    → desks ≡ map (desk_at cells) owners → length cells < most
    → All (λ (desk : DeskShown). length desk.passes < most) desks
desks-few {L} cells owners desks most are few =
    subst (All (λ (desk : DeskShown). length desk.passes < most)) (sym are)
    (All-map (λ (desk : DeskShown). length desk.passes < most) (desk_at cells) owners (grind (arith, length-map)))
