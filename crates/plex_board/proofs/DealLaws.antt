-- What is known where the last pass is dealt to its desk.
use Rattle.plex_board.proofs.Imports.{◌≡◌, ℕ, ◌+◌, ◌-◌, ◌<◌, ◌≤◌, List, [], ◌∷◌, ◌++◌, length, get_or, set, get_or-set_other, map, sym, ap, ◌∙◌, arith, All, Some, range_with_len, length-append, map-range_with_len_more, All-pop, PassShown, DeskShown, each_with, bare_desk, desk_with}
use Rattle.plex_board.proofs.RowLaws.{each_with-last}

module _ (all front : List PassShown) (pass : PassShown) (owner : ℕ) (all_is : all ≡ front ++ pass ∷ [])
    (owner_is : owner ≡ length all) where
  counted : owner ≡ length front + 1
  counted = owner_is ∙ ap length all_is ∙ length-append front (pass ∷ [])

  pub deal-some : 1 ≤ owner
  deal-some = omega (arith, counted)

  pub deal-next : owner - 1 ≡ length front
  deal-next = omega (arith, counted)

  pub deal-desks : (desks : List DeskShown) (desk after : DeskShown) → owner ≤ length desks
      → desk ≡ get_or desks (owner - 1) desk → after ≡ desk_with pass desk
      → each_with desk_with front (set desks (owner - 1) after) ≡ each_with desk_with all desks
  deal-desks desks desk after few is after_is =
      let below : length front < length desks = omega (arith, counted, few) in
      let here : get_or desks (length front) desk ≡ desk = sym (is ∙ ap (λ (n : ℕ). get_or desks n desk) deal-next) in
      ap (λ (n : ℕ). each_with desk_with front (set desks n after)) deal-next ∙ ap (λ (d : DeskShown). each_with
      desk_with front (set desks (length front) d)) after_is ∙ ap (λ (d : DeskShown). each_with desk_with
      front (set desks (length front) (desk_with pass d))) (sym here) ∙ sym (each_with-last
      desk_with front pass desks desk below) ∙ ap (λ (ps : List PassShown). each_with desk_with ps desks) (sym all_is)

  pub deal-unused : All (λ (p : PassShown). p.calls ≡ []) all
      → All (λ (p : PassShown). p.calls ≡ []) front × (pass.calls ≡ [])
  deal-unused unused = All-pop (λ (p : PassShown). p.calls ≡ []) all front (Some pass) all_is unused

-- the desks that have no pass yet have room for one
pub few-left : (desks : List DeskShown) (owner most : ℕ) (after : DeskShown)
    → ((k : ℕ) (desk : DeskShown) → k < owner → length (get_or desks k desk).passes < most)
    → (k : ℕ) (desk : DeskShown) → k < owner - 1 → length (get_or (set desks (owner - 1) after) k desk).passes < most
few-left desks owner most after few k d below = grind (arith, get_or-set_other)

-- one desk more
pub desk-more : (before after : List DeskShown) (n : ℕ) (desk : DeskShown) → after ≡ before ++ desk ∷ [] → before
    ≡ map bare_desk (range_with_len 0 n) → desk ≡ bare_desk n → after ≡ map bare_desk (range_with_len 0 (n + 1))
desk-more before after n desk more are is = more ∙ ap (λ (desks : List DeskShown). desks ++ desk ∷ []) are
    ∙ ap (λ (d : DeskShown). map bare_desk (range_with_len 0 n) ++ d ∷ []) is
    ∙ sym (map-range_with_len_more bare_desk 0 n n (omega arith))
