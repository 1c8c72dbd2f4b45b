-- What the links of a closed board have to do with its histories: structure by structure, link by link.
use Rattle.plex_agent.proofs.Imports.{◌≡◌, ℕ, zero, suc, ◌+◌, ◌*◌, ◌-◌, ◌≤◌, ◌<◌, List, [], ◌∷◌, ◌++◌, length, map, slice_get, Option, Some, refl, sym, ap, subst, ◌∙◌, arith, append_assoc, flat_map, length-map, slice_get_within, IsFacility, StrForm, CfId, Links, Telling, AreAsked, IsAskedAll, link_at, TellsEnough, asked_faults, asked_calls, asked_told, trues, marks_counted, altered_caches, queued_lists, lock_meaning, AnyHistory, IsAnyLegal, AreAnyAsTold, any_answers, any_marks_at, links_told, link_place, AreTelling, IsLinkOf, AreRunLinks, CellShown, BoardShown, AreEachAsked, AreLinksAsked, four_of, links_of}
use Rattle.plex_board.specs.CfLink.Links.{Tells}
use Rattle.plex_agent.proofs.Lookups.{some_same, get_mapped}

-- ---- places

module _ {L : Type 0} where
  place_here : (links : Links L) (others : List L) (n : ℕ) → 1 ≤ n → n ≤ 4
      → slice_get (four_of links ++ others) (n - 1) ≡ Some (link_at links (record { 0 = n }))
  place_here links others zero least most = absurd (omega (arith, least))
  place_here links others (suc zero) least most = refl
  place_here links others (suc (suc zero)) least most = refl
  place_here links others (suc (suc (suc zero))) least most = refl
  place_here links others (suc (suc (suc (suc zero)))) least most = refl
  place_here links others (suc (suc (suc (suc (suc n))))) least most = absurd (omega (arith, most))

  place_first : (links : Links L) (others : List L) (cf : CfId) → IsFacility cf
      → slice_get (four_of links ++ others) (link_place 0 cf) ≡ Some (link_at links cf)
  place_first links others cf is = grind (arith, place_here)

  behind_four : (links : Links L) (others : List L) (i j : ℕ) → i ≡ suc (suc (suc (suc j)))
      → slice_get (four_of links ++ others) i ≡ slice_get others j
  behind_four links others i j e = ap (slice_get (four_of links ++ others)) e

  place_later : (links : Links L) (others : List L) (x : ℕ) (cf : CfId)
      → slice_get (four_of links ++ others) (link_place (suc x) cf) ≡ slice_get others (link_place x cf)
  place_later links others x cf = grind (arith, behind_four)

  -- ---- the links of a board

  abbrev all_links : List (CellShown L) → List L → List L
  all_links cells spare = flat_map (λ (cell : CellShown L). four_of cell.links) cells ++ spare

  links_split : (cell : CellShown L) (cells : List (CellShown L)) (spare : List L)
      → all_links (cell ∷ cells) spare ≡ four_of cell.links ++ all_links cells spare
  links_split cell cells spare = append_assoc (four_of cell.links) (flat_map (λ cell. four_of cell.links) cells) spare

  cell_link : (cells : List (CellShown L)) (spare : List L) (x : ℕ) (cell : CellShown L) (cf : CfId)
      → slice_get cells x ≡ Some cell → IsFacility cf
      → slice_get (all_links cells spare) (link_place x cf) ≡ Some (link_at cell.links cf)
  cell_link [] spare x cell cf e is = absurd (omega (arith, slice_get_within [] x cell e))
  cell_link (first ∷ cells) spare zero cell cf e is = grind (arith, some_same, links_split, place_first)
  cell_link (first ∷ cells) spare (suc x) cell cf e is =
      grind (arith, links_split, place_later, cell_link cells spare x cell cf e is)

  module _ (calls : L → Option ℕ) (downs : L → Option (List ℕ)) (faults : L → ℕ) where
    -- the links of a structure once its cell was closed
    pub record IsAskedAt (cell : CellShown L) (entries : AnyHistory) (x : ℕ) (new : List L) : Type 0 where
      pub asked : Links L
      pub are : AreAsked calls downs faults (any_answers cell.form entries) cell.links asked
      pub at : (cf : CfId) → IsFacility cf → slice_get new (link_place x cf) ≡ Some (link_at asked cf)

    asked_at : (cells : List (CellShown L)) (histories : List AnyHistory) (spare new : List L) → AreEachAsked
        calls downs faults cells histories spare new → (x : ℕ) (cell : CellShown L) (entries : AnyHistory)
        → slice_get cells x ≡ Some cell → slice_get histories x ≡ Some entries → IsAskedAt cell entries x new
    asked_at [] histories spare new each x cell entries there kept = grind (arith, slice_get_within)
    asked_at (first ∷ cells) [] spare new each x cell entries there kept = absurd each
    asked_at (first ∷ cells) (one ∷ histories) spare new each zero cell entries there kept =
        let same = some_same _ _ there in
        let same' = some_same _ _ kept in
        subst (λ c. IsAskedAt c entries 0 new) same (subst (λ h. IsAskedAt first h 0 new) same' (record {
          asked = each.0;
          are = each.3;
          at = λ cf is. ap (λ links. slice_get links (link_place 0 cf)) each.2 ∙ place_first _ _ _ is;
        }))
    asked_at (first ∷ cells) (one ∷ histories) spare new each (suc x) cell entries there kept =
        let rest = asked_at cells histories spare each.1 each.4 x cell entries there kept in
        record {
          asked = rest.asked;
          are = rest.are;
          at = grind (arith, place_later);
        }

    each_size : (cells : List (CellShown L)) (histories : List AnyHistory) (spare new : List L)
        → AreEachAsked calls downs faults cells histories spare new → length new ≡ length (all_links cells spare)
    each_size [] histories spare new each = ap length each
    each_size (cell ∷ cells) [] spare new each = absurd each
    each_size (cell ∷ cells) (one ∷ histories) spare new each =
        grind (arith, links_split, each_size cells histories spare each.1 each.4)

    each_spare : (cells : List (CellShown L)) (histories : List AnyHistory) (spare new : List L)
        → AreEachAsked calls downs faults cells histories spare new → (i : ℕ) → 4 * length cells ≤ i
        → slice_get new i ≡ slice_get (all_links cells spare) i
    each_spare [] histories spare new each i past = ap (λ (links : List L). slice_get links i) each
    each_spare (cell ∷ cells) [] spare new each i past = absurd each
    each_spare (cell ∷ cells) (one ∷ histories) spare new each i past =
        let many : 4 + 4 * length cells ≤ i = omega (arith, past) in
        let e : i ≡ suc (suc (suc (suc (i - 4)))) = omega (arith, many) in
        let rest = each_spare cells histories spare each.1 each.4 (i - 4) (omega (arith, many)) in
        ap (λ links. slice_get links i) each.2 ∙ behind_four _ _ i _ e
        ∙ rest ∙ sym (behind_four _ _ i _ e) ∙ sym (ap (λ links. slice_get links i) (links_split cell cells spare))

-- a history of whatever kind has as many marks of a facility as its link answered Down
any_marks_counted : (form : StrForm) (entries : AnyHistory) → IsAnyLegal form entries → (cf : CfId)
    → any_marks_at entries cf ≡ trues (any_answers form entries cf)
any_marks_counted form (AnyHistory.Cache entries) legal cf = marks_counted altered_caches form entries legal cf
any_marks_counted form (AnyHistory.List entries) legal cf = marks_counted queued_lists form entries legal cf
any_marks_counted form (AnyHistory.Lock entries) legal cf = marks_counted lock_meaning form entries legal cf

module _ {L : Type 0} (calls : L → Option ℕ) (downs : L → Option (List ℕ)) (faults : L → ℕ)
    (enough : (link : L) → TellsEnough (calls link) (downs link)) where
  link_of : (form : StrForm) (entries : AnyHistory) (cf : CfId) (old new : L) → IsAnyLegal form entries → IsAskedAll
      calls downs faults (any_answers form entries cf) old new → IsLinkOf calls downs faults form entries cf old new
  link_of form entries cf old new legal asked =
      grind (arith, any_marks_counted, asked_faults, asked_calls, asked_told)

  any_links_told : (form : StrForm) (told : CfId → Telling) (entries : AnyHistory) (old new : Links L)
      → ((cf : CfId) → IsFacility cf → Tells calls downs faults (told cf) (link_at old cf))
      → AreAsked calls downs faults (any_answers form entries) old new → AreAnyAsTold form told entries
  any_links_told form told (AnyHistory.Cache entries) old new tells asked =
      links_told altered_caches form told calls downs faults entries old new enough tells asked
  any_links_told form told (AnyHistory.List entries) old new tells asked =
      links_told queued_lists form told calls downs faults entries old new enough tells asked
  any_links_told form told (AnyHistory.Lock entries) old new tells asked =
      links_told lock_meaning form told calls downs faults entries old new enough tells asked

  module _ (board : BoardShown L) (forms : List StrForm) (histories : List AnyHistory) (old new : List L)
      (old_are : links_of board ≡ old) (forms_are : map (λ cell. cell.form) board.cells ≡ forms)
      (asked : AreLinksAsked calls downs faults board histories new) where
    forms_length : length forms ≡ length board.cells
    forms_length = ap length (sym forms_are) ∙ length-map board.cells (λ (cell : CellShown L). cell.form)

    asked_here : (x : ℕ) (cell : CellShown L) (entries : AnyHistory) → slice_get board.cells x ≡ Some cell
        → slice_get histories x ≡ Some entries → IsAskedAt calls downs faults cell entries x new
    asked_here = asked_at calls downs faults board.cells histories board.spare new asked

    cell_at : (x : ℕ) (form : StrForm) → slice_get forms x ≡ Some form
        → (cell : CellShown L) × (slice_get board.cells x ≡ Some cell) × (cell.form ≡ form)
    cell_at x form e = get_mapped (λ cell. cell.form) _ x _ (ap (λ fs. slice_get fs x) forms_are ∙ e)

    old_at : (x : ℕ) (cell : CellShown L) (cf : CfId) → slice_get board.cells x ≡ Some cell → IsFacility cf
        → slice_get old (link_place x cf) ≡ Some (link_at cell.links cf)
    old_at x cell cf there is = ap (λ (links : List L). slice_get links (link_place x cf)) (sym old_are)
        ∙ cell_link board.cells board.spare x cell cf there is

    -- as many as there were
    pub links_size : length new ≡ length old
    links_size = each_size calls downs faults board.cells histories board.spare new asked ∙ ap length old_are

    -- the links of the run's structures
    pub run_links : ((x : ℕ) (cell : CellShown L) (entries : AnyHistory) → slice_get board.cells x ≡ Some cell
        → slice_get histories x ≡ Some entries → IsAnyLegal cell.form entries)
        → AreRunLinks calls downs faults forms histories old new
    run_links legal = record {
      size = links_size;
      each = λ x form entries cf one other formed kept is before after.
          let cell = cell_at x form formed in
          let here = asked_here x cell.0 entries cell.1 kept in
          let one_is = some_same _ _ (sym (old_at x cell.0 cf cell.1 is) ∙ before) in
          let other_is = some_same _ _ (sym (here.at cf is) ∙ after) in
          rw (← cell.2) (grind (arith, link_of));
      others = λ x form entries cf formed kept other.
          let cell = cell_at x form formed in
          let here = asked_here x cell.0 entries cell.1 kept in
          subst (λ f. any_answers f entries cf ≡ []) cell.2 (here.are.others cf other);
      spare = λ i past. each_spare calls downs faults board.cells histories board.spare new asked
          i (let few = subst (λ n. 4 * n ≤ i) forms_length past in few) ∙ ap (λ links. slice_get links i) old_are;
    }

    -- where they tell which calls are down, the histories are those of such links
    pub run_told : (told : ℕ → CfId → Telling) → AreTelling calls downs faults told (length forms) old
        → (x : ℕ) (cell : CellShown L) (entries : AnyHistory) → slice_get board.cells x ≡ Some cell
        → slice_get histories x ≡ Some entries → AreAnyAsTold cell.form (told x) entries
    run_told told telling x cell entries there kept =
        let within : x < length forms = omega (arith, slice_get_within board.cells x cell there, forms_length) in
        let here : IsAskedAt calls downs faults cell entries x new = asked_here x cell entries there kept in
        any_links_told cell.form (told x) entries cell.links here.asked
        (λ cf is. telling x cf (link_at cell.links cf) within is (old_at x cell cf there is)) here.are
