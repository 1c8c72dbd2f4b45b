-- What is known where the last pass is put into its home.
use Rattle.plex_board.proofs.Imports.{◌≡◌, ℕ, ◌<◌, List, [], ◌∷◌, ◌++◌, length, get_or, set, sym, ap, subst, ◌∙◌, arith, length-map, get_or-map, map-set, AnyPasses, StrType, PassShown, passes_shown, type_of_passes, room_of, each_with, HomeShown, home_shown, homes_shown, home_with, Fits}
use Rattle.plex_board.proofs.RowLaws.{each_with-last, FitsLast, fits-last}

same-home : (str_type other : StrType) (passes others : List PassShown) (room most : ℕ) → str_type ≡ other
    → passes ≡ others → room ≡ most → (let h : HomeShown = record {
      str_type = str_type;
      passes = passes;
      room = room;
    } in h) ≡ record { str_type = other; passes = others; room = most }
same-home str_type other passes others room most e f g = cc

module _ (homes : List AnyPasses) (all front : List PassShown) (pass : PassShown) (k : ℕ)
    (fits : Fits all (homes_shown homes)) (all_is : all ≡ front ++ pass ∷ []) (k_is : k ≡ length front) where
  last : (d : HomeShown) → FitsLast front pass (homes_shown homes) d
  last d = fits-last front pass
      (homes_shown homes) d (subst (λ (ps : List PassShown). Fits ps (homes_shown homes)) all_is fits)

  pub put-there : k < length homes
  put-there =
      let d : HomeShown = record { str_type = pass.str_type; passes = []; room = 0 } in
      omega (arith, (last d).there, length-map homes home_shown, k_is)

  module _ (home : AnyPasses) (home_is : home ≡ get_or homes k home) where
    shown-at : get_or (homes_shown homes) (length front) (home_shown home) ≡ home_shown home
    shown-at = grind (arith, put-there, get_or-map)

    pub put-type : pass.str_type ≡ type_of_passes home
    put-type = (last (home_shown home)).type_is ∙ ap (λ (h : HomeShown). h.str_type) shown-at

    pub put-room : length (passes_shown home) < room_of home
    put-room = subst (λ (h : HomeShown). length h.passes < h.room) shown-at (last (home_shown home)).room

    module _ (after : AnyPasses) (passes : passes_shown after ≡ passes_shown home ++ pass ∷ [])
        (type_is : type_of_passes after ≡ type_of_passes home) (room : room_of after ≡ room_of home) where
      shown-after : homes_shown (set homes k after)
          ≡ set (homes_shown homes) (length front) (home_with pass (home_shown home))
      shown-after = grind (arith, map-set, same-home)

      pub put-fits : Fits front (homes_shown (set homes k after))
      put-fits =
          subst (Fits front) (sym shown-after) ((last (home_shown home)).rest (home_with pass (home_shown home)))

      pub put-row : each_with home_with front (homes_shown (set homes k after))
          ≡ each_with home_with all (homes_shown homes)
      put-row =
          let below : length front < length (homes_shown homes) = (last (home_shown home)).there in
          ap (each_with home_with front) shown-after ∙ ap (λ (h : HomeShown). each_with home_with
          front (set (homes_shown homes) (length front) (home_with pass h))) (sym shown-at)
          ∙ sym (each_with-last home_with front pass (homes_shown homes) (home_shown home) below)
          ∙ ap (λ (ps : List PassShown). each_with home_with ps (homes_shown homes)) (sym all_is)
