-- Works one after another: their items fill the slots of the whole, and the other way round.
use Rattle.std.proofs.Common.{◌≡◌, ◌≢◌, ◌⊎◌, ℕ, ◌+◌, ◌≤◌, ◌<◌, ◌==◌, inl, inr, Bool, true, false, List, [], ◌∷◌, ◌++◌, length, map, take, fold, get_or, set, refl, sym, ap, subst, ◌∙◌, arith, append-nil, append_assoc, length-append}
use Rattle.std.proofs.Math.Seq.{take-append_seam}
use Rattle.std.proofs.lemmas.Bool.{cases_lt}
use Rattle.std.proofs.lemmas.Bool.Decides.{nat_tests}
use Rattle.std.proofs.lemmas.List.{length-set, length-map, map-append, get_or-set_same, get_or-set_other, get_or_past}
use Rattle.std.proofs.lemmas.List.Elements.{filter_map-append}
use Rattle.std.proofs.lemmas.List.Sums.{fold-append}
use Rattle.run_shown.specs.CfTypes.declared.forms.StrForm.{StrForm}
use Rattle.run_shown.specs.CfTypes.declared.numbers.ConnId.{ConnId}
use Rattle.run_shown.specs.CfTypes.declared.numbers.StrNo.{StrNo}
use Rattle.run_shown.specs.PlexScript.declared.asks.AnyHistory.{AnyHistory}
use Rattle.run_shown.specs.PlexScript.declared.transcripts.Shown.{Shown}
use Rattle.run_shown.specs.PlexScript.Heard.{AnyCall, own_calls, calls_on, link_after, is_linked}
use Rattle.run_shown.specs.PlexScript.Follows.{number_on, numbers_on, is_linked_by}
use Rattle.run_shown.specs.Kinds.{Rising}
use Rattle.caller_slots.specs.Works.{Work, work_on, ShowsWork, ShowsWorks}
use Rattle.caller_slots.specs.Slots.{Slot, Fills, Place, no_place, place_at, How, Rests, Wants, Ran, work_ran, Ends, Whole, after_work, whole, AreUsed}
use Rattle.caller_slots.proofs.Own.{same_place, AreOwn, own_left}
use Rattle.caller_slots.proofs.Runs.{Taken}
use Rattle.caller_slots.proofs.Acts.{IsBy, work_takes, work_fills, work_shows}

-- ---- slots in two parts

pub fills_join : (slots more : List Slot) (items others : List Shown) → Fills slots items → Fills more others
    → Fills (slots ++ more) (items ++ others)
fills_join [] more [] others first second = second
fills_join [] more (item ∷ items) others first second = absurd first
fills_join (slot ∷ slots) more [] others first second = absurd first
fills_join (slot ∷ slots) more (item ∷ items) others first second =
    (first.0, fills_join slots more items others first.1 second)

pub record Parted (slots more : List Slot) (items : List Shown) : Type 0 where
  pub first : List Shown
  pub others : List Shown
  pub shows : items ≡ first ++ others
  pub fills : Fills slots first
  pub behind : Fills more others

pub fills_part : (slots more : List Slot) (items : List Shown) → Fills (slots ++ more) items → Parted slots more items
fills_part [] more items fills = record { first = []; others = items; shows = refl; fills = tt; behind = fills }
fills_part (slot ∷ slots) more [] fills = absurd fills
fills_part (slot ∷ slots) more (item ∷ items) fills =
    let rest : Parted slots more items = fills_part slots more items fills.1 in
    record {
      first = item ∷ rest.first;
      others = rest.others;
      shows = ap (λ (t : List Shown). item ∷ t) rest.shows;
      fills = (fills.0, rest.fills);
      behind = rest.behind;
    }

-- ---- numbers in two parts

abbrev pub numbers_of : List AnyCall → List ℕ
numbers_of calls = map (λ call. call.no) calls

cut_same : (xs ys zs : List ℕ) → xs ++ ys ≡ xs ++ zs → ys ≡ zs
cut_same [] ys zs same = same
cut_same (x ∷ xs) ys zs same = cut_same xs ys zs (cc)

none_left : (calls : List AnyCall) → [] ≡ numbers_of calls → calls ≡ []
none_left [] same = refl
none_left (call ∷ calls) same = absurd cc

-- ---- where a caller stands

module _ (forms : List StrForm) (histories : List AnyHistory) (conn : ConnId) (many : ℕ)
    (rise : (on : StrNo) → Rising 0 (calls_on histories on)) where
  -- what a place has to do with the items so far
  pub record IsAt (before : List Shown) (on : StrNo) (place : Place) : Type 0 where
    pub used : List AnyCall
    pub split : own_calls (calls_on histories on) conn ≡ used ++ place.left
    pub linked : place.linked ≡ is_linked used
    pub count : length used ≡ length (numbers_on on before)

  pub record AreAt (before : List Shown) (places : List Place) : Type 0 where
    pub size : length places ≡ many
    pub each : (on : StrNo) → on.0 < many → IsAt before on (place_at places on)

  -- what is left at each structure is what the items to come show
  abbrev pub AreLeft : List Place → List Shown → Type 0
  AreLeft places items =
      (on : StrNo) → on.0 < many → numbers_on on items ≡ numbers_of (place_at places on).left

  abbrev pub IsRight : Work → Type 0
  IsRight work = IsBy conn work × (work_on work).0 < many

  abbrev pub AreRight : List Work → Type 0
  AreRight [] = Unit {0}
  AreRight (work ∷ works) = IsRight work × AreRight works

  pub links_at : (before : List Shown) (on : StrNo) (place : Place) → IsAt before on place
      → is_linked_by (calls_on histories on) conn on before ≡ place.linked
  links_at before on place at =
      ap is_linked
      (ap (λ (n : ℕ). take n (own_calls (calls_on histories on) conn)) (sym at.count)
      ∙ ap (take (length at.used)) at.split ∙ take-append_seam at.used place.left) ∙ sym at.linked

  pub own_at : (before : List Shown) (on : StrNo) (place : Place) → IsAt before on place
      → AreOwn (calls_on histories on) conn place.left
  own_at before on place at = own_left (calls_on histories on) conn at.used place.left (rise on) at.split

  -- ---- one work more

  module _ (before : List Shown) (places : List Place) (work : Work) (at : AreAt before places)
      (right : IsRight work) where
    abbrev pub done : Ran
    done = work_ran forms work (place_at places (work_on work))

    abbrev pub next : List Place
    next = set places (work_on work).0 done.place

    taken : Taken (work_on work) (place_at places (work_on work)).linked (place_at places (work_on work)).left done
    taken = work_takes forms histories conn work (place_at places (work_on work))

    next_here : place_at next (work_on work) ≡ done.place
    next_here =
        get_or-set_same places (work_on work).0 done.place no_place
        (let inside = right.1 in omega (arith, at.size, inside))

    next_there : (on : StrNo) → (work_on work).0 == on.0 ≡ false → place_at next on ≡ place_at places on
    next_there on apart =
        get_or-set_other places (work_on work).0 on.0 done.place no_place (other_number (work_on work).0 on.0 apart)
      where
        other_number : (x y : ℕ) → x == y ≡ false → y ≢ x
        other_number x y apart = λ is. absurd (by_number is)
          where
            by_number : y ≡ x → ⊥
            by_number is = grind (arith, nat_tests)

    module _ (first : List Shown) (fills : Fills done.slots first) where
      pub next_at : AreAt (before ++ first) next
      next_at =
          record {
            size = length-set places (work_on work).0 done.place ∙ at.size;
            each = λ on inside. by_place on inside ((work_on work).0 == on.0) refl;
          }
        where
          here : IsAt (before ++ first) (work_on work) done.place
          here =
              let was : IsAt before (work_on work) (place_at places (work_on work)) = at.each (work_on work) right.1 in
              record {
                used = was.used ++ taken.taken;
                split = was.split ∙ ap (λ (t : List AnyCall). was.used ++ t) taken.split
                    ∙ sym (append_assoc was.used taken.taken done.place.left);
                linked = taken.linked_is
                    ∙ ap (λ (b : Bool). fold link_after b taken.taken) was.linked
                    ∙ sym (fold-append link_after false was.used taken.taken);
                count = length-append was.used taken.taken
                    ∙ ap (λ (n : ℕ). n + length taken.taken) was.count
                    ∙ ap (λ (n : ℕ). length (numbers_on (work_on work) before) + n)
                    (sym (ap length (taken.numbers first fills)
                    ∙ length-map taken.taken (λ (call : AnyCall). call.no)))
                    ∙ sym (ap length (filter_map-append (number_on (work_on work)) before first)
                    ∙ length-append (numbers_on (work_on work) before) (numbers_on (work_on work) first));
              }

          by_place : (on : StrNo) → on.0 < many → (b : Bool) → (work_on work).0 == on.0 ≡ b
              → IsAt (before ++ first) on (place_at next on)
          by_place on inside true same =
              subst (λ (o : StrNo). IsAt (before ++ first) o (place_at next o)) (same_place (work_on work) on same)
              (subst (IsAt (before ++ first) (work_on work)) (sym next_here) here)
          by_place on inside false apart =
              let was : IsAt before on (place_at places on) = at.each on inside in
              subst (IsAt (before ++ first) on) (sym (next_there on apart))
              (record {
                used = was.used;
                split = was.split;
                linked = was.linked;
                count = was.count
                    ∙ sym (ap length (filter_map-append (number_on on) before first
                    ∙ ap (λ (t : List ℕ). numbers_on on before ++ t) (taken.elsewhere on apart first fills)
                    ∙ append-nil (numbers_on on before)));
              })

      -- what is left before it and behind it
      pub left_then : (others : List Shown) → AreLeft next others → AreLeft places (first ++ others)
      left_then others left on inside = by_place ((work_on work).0 == on.0) refl
        where
          here : numbers_on (work_on work) (first ++ others) ≡ numbers_of (place_at places (work_on work)).left
          here =
              filter_map-append (number_on (work_on work)) first others
              ∙ ap (λ (t : List ℕ). t ++ numbers_on (work_on work) others) (taken.numbers first fills)
              ∙ ap (λ (t : List ℕ). numbers_of taken.taken ++ t)
              (left (work_on work) right.1 ∙ ap (λ (p : Place). numbers_of p.left) next_here)
              ∙ sym (map-append (λ (call : AnyCall). call.no) taken.taken done.place.left)
              ∙ ap numbers_of (sym taken.split)

          by_place : (b : Bool) → (work_on work).0 == on.0 ≡ b
              → numbers_on on (first ++ others) ≡ numbers_of (place_at places on).left
          by_place true same =
              subst (λ (o : StrNo). numbers_on o (first ++ others) ≡ numbers_of (place_at places o).left)
              (same_place (work_on work) on same) here
          by_place false apart =
              filter_map-append (number_on on) first others
              ∙ ap (λ (t : List ℕ). t ++ numbers_on on others) (taken.elsewhere on apart first fills)
              ∙ left on inside ∙ ap (λ (p : Place). numbers_of p.left) (next_there on apart)

      pub left_behind : (others : List Shown) → AreLeft places (first ++ others) → AreLeft next others
      left_behind others left on inside = by_place ((work_on work).0 == on.0) refl
        where
          here : numbers_on (work_on work) others ≡ numbers_of (place_at next (work_on work)).left
          here =
              cut_same (numbers_of taken.taken) (numbers_on (work_on work) others) (numbers_of done.place.left)
              (ap (λ (t : List ℕ). t ++ numbers_on (work_on work) others) (sym (taken.numbers first fills))
              ∙ sym (filter_map-append (number_on (work_on work)) first others) ∙ left (work_on work) right.1
              ∙ ap numbers_of taken.split
              ∙ map-append (λ (call : AnyCall). call.no) taken.taken done.place.left)
              ∙ ap (λ (p : Place). numbers_of p.left) (sym next_here)

          by_place : (b : Bool) → (work_on work).0 == on.0 ≡ b
              → numbers_on on others ≡ numbers_of (place_at next on).left
          by_place true same =
              subst (λ (o : StrNo). numbers_on o others ≡ numbers_of (place_at next o).left)
              (same_place (work_on work) on same) here
          by_place false apart =
              ap (λ (t : List ℕ). t ++ numbers_on on others) (sym (taken.elsewhere on apart first fills))
              ∙ sym (filter_map-append (number_on on) first others) ∙ left on inside
              ∙ ap (λ (p : Place). numbers_of p.left) (sym (next_there on apart))

  -- ---- all works

  pub none_used : (places : List Place) → length places ≡ many → AreLeft places [] → AreUsed places
  none_used places size left x = by_place (cases_lt x many)
    where
      by_place : (x < many) ⊎ (many ≤ x) → (get_or places x no_place).left ≡ []
      by_place (inl inside) = none_left (get_or places x no_place).left (left (record { 0 = x }) inside)
      by_place (inr past) =
          ap (λ (p : Place). p.left) (get_or_past places x no_place (omega (arith, past, size)))

  pub works_fill : (works : List Work) (before : List Shown) (places : List Place) (items : List Shown)
      → AreRight works → AreAt before places
      → ShowsWorks forms histories conn works before items → AreLeft places items
      → ((whole forms works places).end ≡ Ends) × Fills (whole forms works places).slots items
      × AreUsed (whole forms works places).places
  works_fill [] before places items right at shows left = (
    refl,
    subst (Fills []) (sym shows) tt,
    none_used places at.size (subst (AreLeft places) shows left),
  )
  works_fill (work ∷ works) before places items right at (first, (others, is, one, rest)) left =
      let here : numbers_on (work_on work) first ++ numbers_on (work_on work) others
      ≡ numbers_of (place_at places (work_on work)).left =
      sym (filter_map-append (number_on (work_on work)) first others)
      ∙ subst (AreLeft places) is left (work_on work) right.0.1 in
      let filled =
      work_fills forms histories conn before work (place_at places (work_on work)) first
      (numbers_on (work_on work) others) right.0.0
      (own_at before (work_on work) (place_at places (work_on work)) (at.each (work_on work) right.0.1))
      (links_at before (work_on work) (place_at places (work_on work)) (at.each (work_on work) right.0.1)) one here in
      let behind =
      works_fill works (before ++ first) (next before places work at right.0) others right.1
      (next_at before places work at right.0 first filled.1) rest
      (left_behind before places work at right.0 first filled.1 others (subst (AreLeft places) is left)) in
      rw filled.0 (
        behind.0,
        subst
            (Fills ((done before places work at right.0).slots
            ++ (whole forms works (next before places work at right.0)).slots)) (sym is)
            (fills_join (done before places work at right.0).slots
            (whole forms works (next before places work at right.0)).slots first others filled.1 behind.1),
        behind.2,
      )

  pub fills_work : (works : List Work) (before : List Shown) (places : List Place) (items : List Shown)
      → AreRight works → AreAt before places
      → (whole forms works places).end ≡ Ends → Fills (whole forms works places).slots items
      → AreUsed (whole forms works places).places
      → ShowsWorks forms histories conn works before items × AreLeft places items
  fills_work [] before places items right at end fills used =
      let none : items ≡ [] = by_items items fills in
      (none, λ on inside. ap (numbers_on on) none ∙ ap numbers_of (sym (used on.0)))
    where
      by_items : (items : List Shown) → Fills [] items → items ≡ []
      by_items [] fills = refl
      by_items (item ∷ items) fills = absurd fills
  fills_work (work ∷ works) before places items right at end fills used =
      by_how (done before places work at right.0).how refl end fills used
      (λ first others. fills_work works (before ++ first) (next before places work at right.0) others right.1)
    where
      behind : Whole
      behind = whole forms works (next before places work at right.0)

      by_how : (how : How) → (done before places work at right.0).how ≡ how
          → (after_work how (work_on work) (done before places work at right.0).slots (next before places work at right.0)
          behind).end ≡ Ends
          → Fills (after_work how (work_on work) (done before places work at right.0).slots
          (next before places work at right.0) behind).slots items
          → AreUsed (after_work how (work_on work) (done before places work at right.0).slots
          (next before places work at right.0) behind).places
          → ((first others : List Shown) → AreAt (before ++ first) (next before places work at right.0)
          → behind.end ≡ Ends → Fills behind.slots others → AreUsed behind.places
          → ShowsWorks forms histories conn works (before ++ first) others
          × AreLeft (next before places work at right.0) others)
          → ShowsWorks forms histories conn (work ∷ works) before items × AreLeft places items
      by_how (Wants asked) is end fills used rest = absurd cc
      by_how Rests is end fills used rest =
          let parted : Parted (done before places work at right.0).slots behind.slots items =
          fills_part (done before places work at right.0).slots behind.slots items fills in
          let others =
          rest parted.first parted.others (next_at before places work at right.0 parted.first parted.fills) end
          parted.behind used in
          let one : ShowsWork forms histories conn work before parted.first =
          work_shows forms histories conn before work (place_at places (work_on work)) parted.first right.0.0
          (own_at before (work_on work) (place_at places (work_on work)) (at.each (work_on work) right.0.1))
          (links_at before (work_on work) (place_at places (work_on work)) (at.each (work_on work) right.0.1)) is
          parted.fills in (
            (parted.first, (parted.others, parted.shows, one, others.0)),
            subst (AreLeft places) (sym parted.shows)
                (left_then before places work at right.0 parted.first parted.fills parted.others others.1),
          )
