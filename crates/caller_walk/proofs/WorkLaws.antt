-- Works one after another, and where a caller stands between them.
use Rattle.std.proofs.Common.{◌≡◌, ◌↔◌, ℕ, zero, suc, ◌+◌, ◌<◌, ◌≤◌, ◌==◌, Bool, true, false, List, [], ◌∷◌, ◌++◌, length, map, filter, fold, drop, replicate, get_or, set, slice_get, Option, Some, None, inl, inr, ◌⊎◌, refl, sym, ap, subst, ◌∙◌, arith, cond}
use Rattle.std.proofs.Math.Seq.{drop-length}
use Rattle.std.proofs.lemmas.Bool.{cases_lt}
use Rattle.std.proofs.lemmas.List.{drop_more, get_or_past}
use Rattle.std.proofs.lemmas.List.Sums.{fold-append}
use Rattle.std.proofs.lemmas.Option.{slice_get_past, slice_get_read, slice_get-get_or}
use Rattle.cf_lists.proofs.TableLaws.{get_within}
use Rattle.caller_slots.specs.RunShown.CfTypes.declared.{forms.Kind.Kind, forms.StrForm.StrForm, numbers.ConnId.ConnId, numbers.StrNo.StrNo}
use Rattle.caller_slots.specs.RunShown.PlexScript.declared.{asks.AnyHistory.AnyHistory, scripts.AnyAsk.AnyAsk, scripts.Line.Line, scripts.Script.Script, transcripts.Shown.Shown}
use Rattle.caller_slots.specs.Asked.{AreAsked}
use Rattle.caller_slots.specs.Works.{Work, Does, Leaves, work_on, leaves_from, works_of}
use Rattle.caller_slots.specs.Slots.{Slot, Place, no_place, place_at, How, Rests, Wants, Ran, act_ran, work_ran, Ends, Whole, after_work, whole, places_of, AreUsed}
use Rattle.caller_walk.specs.Counts.{counted, count_slot, no_count}
use Rattle.caller_walk.specs.Heard.{left_at, any_drop}
use Rattle.caller_walk.specs.Running.{no_spot, place_of, places_at, leave_ran, GoesThrough, BreaksOff, IsDone, WorksThrough, IsWorkDone, WholeThrough, WholeBreaks, Leads, AreDone, AreAllDone, IsDeparted, IsWalked, own_lines}
use Rattle.caller_walk.specs.declared.{counts.Count.Count, spots.Spot.Spot}

-- ---- slots in two parts

asked-append : (xs ys : List Slot) → AreAsked xs → AreAsked ys → AreAsked (xs ++ ys)
asked-append [] ys h k = k
asked-append (x ∷ xs) ys h k = (h.0, asked-append xs ys h.1 k)

asked-front : (xs ys : List Slot) → AreAsked (xs ++ ys) → AreAsked xs
asked-front [] ys h = tt
asked-front (x ∷ xs) ys h = (h.0, asked-front xs ys h.1)

asked-back : (xs ys : List Slot) → AreAsked (xs ++ ys) → AreAsked ys
asked-back [] ys h = h
asked-back (x ∷ xs) ys h = asked-back xs ys h.1

-- ---- one work, and those behind it

module _ (forms : List StrForm) (items : List Shown) where
  module _ (work : Work) (works : List Work) (places next : List Place) where
    abbrev done : Ran
    done = work_ran forms work (place_at places (work_on work))

    abbrev others : Whole
    others = whole forms works next

    whole_is : done.how ≡ Rests → next ≡ set places (work_on work).0 done.place
        → whole forms (work ∷ works) places
        ≡ record { slots = done.slots ++ others.slots; places = others.places; end = others.end }
    whole_is rests leaves = rw (rests, leaves) refl

    more_through : (count more after : Count) (last : List Place) → WorksThrough forms items work places next count more
        → WholeThrough forms items works next more after last
        → WholeThrough forms items (work ∷ works) places count after last
    more_through count more after last w t =
        let e = whole_is w.rests w.leaves in
        record {
          ends = ap (λ (x : Whole). x.end) e ∙ t.ends;
          asked = subst (λ (x : Whole). AreAsked x.slots) (sym e)
              (asked-append done.slots others.slots w.asked t.asked);
          counts = t.counts ∙ ap (λ (c : Count). counted items c others.slots) w.counts
              ∙ sym (fold-append (count_slot items) count done.slots others.slots)
              ∙ sym (ap (λ (x : Whole). counted items count x.slots) e);
          leaves = t.leaves ∙ sym (ap (λ (x : Whole). x.places) e);
        }

    more_breaks : (count more : Count) → WorksThrough forms items work places next count more
        → WholeBreaks forms works next → WholeBreaks forms (work ∷ works) places
    more_breaks count more w breaks ends asked =
        let e = whole_is w.rests w.leaves in
        breaks (sym (ap (λ (x : Whole). x.end) e) ∙ ends)
        (asked-back done.slots others.slots (subst (λ (x : Whole). AreAsked x.slots) e asked))

  here_breaks : (work : Work) (works : List Work) (places : List Place)
      → BreaksOff (work_ran forms work (place_at places (work_on work))) → WholeBreaks forms (work ∷ works) places
  here_breaks work works places broken ends asked = by_how run.how refl ends asked
    where
      run : Ran
      run = work_ran forms work (place_at places (work_on work))

      rest : Whole
      rest = whole forms works (set places (work_on work).0 run.place)

      by_how : (how : How) → run.how ≡ how
          → (after_work how (work_on work) run.slots (set places (work_on work).0 run.place) rest).end ≡ Ends
          → AreAsked (after_work how (work_on work) run.slots (set places (work_on work).0 run.place) rest).slots → ⊥
      by_how Rests is ends asked = broken is (asked-front run.slots rest.slots asked)
      by_how (Wants wanted) is ends asked = absurd cc

  -- ---- what is left

  pub leads_all : (works : List Work) (places : List Place) (count : Count)
      → Leads forms items works works places places count count
  leads_all works places count = record { through = λ others after last t. t; breaks = λ others broken. broken }

  leads_more : (works left : List Work) (work : Work) (places next then : List Place) (count more most : Count)
      → Leads forms items works (work ∷ left) places next count more
      → WorksThrough forms items work next then more most
      → Leads forms items works left places then count most
  leads_more works left work places next then count more most leads w = record {
    through = λ others after last t. leads.through others after last
        (more_through work (left ++ others) next then more most after last w t);
    breaks = λ others broken. leads.breaks others (more_breaks work (left ++ others) next then more most w broken);
  }

  leads_break : (works left : List Work) (work : Work) (places next : List Place) (count more : Count)
      → Leads forms items works (work ∷ left) places next count more
      → BreaksOff (work_ran forms work (place_at next (work_on work)))
      → (others : List Work) → WholeBreaks forms (works ++ others) places
  leads_break works left work places next count more leads broken others =
      leads.breaks others (here_breaks work (left ++ others) next broken)

  -- ---- lines

  drop_next : {X : Type 0} (xs : List X) (i : ℕ) (x d : X) → i < length xs → x ≡ get_or xs i d
      → drop i xs ≡ x ∷ drop (i + 1) xs
  drop_next xs i x d within value =
      drop_more xs i d within ∙ ap (λ (y : _). y ∷ drop (i + 1) xs) (sym value)

  module _ (conn : ConnId) (lines : List Line) (i : ℕ) (line d : Line) (within : i < length lines)
      (value : line ≡ get_or lines i d) where
    line_own : line.by.0 == conn.0 ≡ true
        → own_lines conn (drop i lines) ≡ Does line ∷ own_lines conn (drop (i + 1) lines)
    line_own mine = rw (drop_next lines i line d within value, mine) refl

    line_other : line.by.0 == conn.0 ≡ false → own_lines conn (drop i lines) ≡ own_lines conn (drop (i + 1) lines)
    line_other apart = rw (drop_next lines i line d within value, apart) refl

    module _ (works : List Work) (places next : List Place) (count more : Count) where
      pub line_leads : (then : List Place) (most : Count) → line.by.0 == conn.0 ≡ true
          → Leads forms items works (own_lines conn (drop i lines)) places next count more
          → WorksThrough forms items (Does line) next then more most
          → Leads forms items works (own_lines conn (drop (i + 1) lines)) places then count most
      line_leads then most mine leads w =
          leads_more works (own_lines conn (drop (i + 1) lines)) (Does line) places next then count more most
          (subst (λ (l : List Work). Leads forms items works l places next count more) (line_own mine) leads) w

      pub line_breaks : line.by.0 == conn.0 ≡ true
          → Leads forms items works (own_lines conn (drop i lines)) places next count more
          → BreaksOff (work_ran forms (Does line) (place_at next line.on))
          → (others : List Work) → WholeBreaks forms (works ++ others) places
      line_breaks mine leads broken =
          leads_break works (own_lines conn (drop (i + 1) lines)) (Does line) places next count more
          (subst (λ (l : List Work). Leads forms items works l places next count more) (line_own mine) leads) broken

      pub line_passes : line.by.0 == conn.0 ≡ false
          → Leads forms items works (own_lines conn (drop i lines)) places next count more
          → Leads forms items works (own_lines conn (drop (i + 1) lines)) places next count more
      line_passes apart leads =
          subst (λ (l : List Work). Leads forms items works l places next count more) (line_other apart) leads

  -- ---- departures

  leaves_next : (number : ℕ) (d : StrForm) → number < length forms
      → leaves_from number (drop number forms)
      ≡ Leaves (get_or forms number d).kind (record { 0 = number }) ∷ leaves_from (number + 1) (drop (number + 1) forms)
  leaves_next number d within = rw (drop_more forms number d within) refl

  module _ (number : ℕ) (within : number < length forms) (form : StrForm) (known : slice_get forms number ≡ Some form)
      (works : List Work) (places next : List Place) (count more : Count)
      (leads : Leads forms items works (leaves_from number (drop number forms)) places next count more) where
    leaves_here : Leads forms items works
        (Leaves form.kind (record { 0 = number }) ∷ leaves_from (number + 1) (drop (number + 1) forms)) places next count
        more
    leaves_here =
        let there : slice_get forms number ≡ Some (get_or forms number form) = slice_get-get_or forms number form within in
        let same : get_or forms number form ≡ form = cc in
        subst (λ (f : StrForm). Leads forms items works
        (Leaves f.kind (record { 0 = number }) ∷ leaves_from (number + 1) (drop (number + 1) forms)) places next count
        more) same
        (subst (λ (l : List Work). Leads forms items works l places next count more) (leaves_next number form within) leads)

    pub depart_leads : (then : List Place) (most : Count) → IsDeparted forms items number next then more most true
        → Leads forms items works (leaves_from (number + 1) (drop (number + 1) forms)) places then count most
    depart_leads then most departed =
        leads_more works (leaves_from (number + 1) (drop (number + 1) forms)) (Leaves form.kind (record { 0 = number }))
        places next then count more most leaves_here (departed form known)

    pub depart_breaks : (then : List Place) (most : Count) → IsDeparted forms items number next then more most false
        → (others : List Work) → WholeBreaks forms (works ++ others) places
    depart_breaks then most departed =
        leads_break works (leaves_from (number + 1) (drop (number + 1) forms)) (Leaves form.kind (record { 0 = number }))
        places next count more leaves_here (departed form known)

  pub departed_all : (works : List Work) (places next : List Place) (count more : Count)
      → Leads forms items works (leaves_from (length forms) (drop (length forms) forms)) places next count more
      → Leads forms items works [] places next count more
  departed_all works places next count more leads = subst (λ (l : List Work).
      Leads forms items works l places next count more)
      (ap (leaves_from (length forms)) (drop-length forms)) leads

  -- ---- all works

  ended : (places : List Place) (count : Count) → WholeThrough forms items [] places count count places
  ended places count = record { ends = refl; asked = tt; counts = refl; leaves = refl }

  append-none : (works : List Work) → works ++ [] ≡ works
  append-none [] = refl
  append-none (work ∷ works) = ap (λ (l : List Work). work ∷ l) (append-none works)

  module _ (script : Script) (conn : ConnId) (places next : List Place) (count more : Count) where
    pub all_broken : ((others : List Work) → WholeBreaks forms (own_lines conn script.lines ++ others) places)
        → WholeBreaks forms (works_of script conn) places
    all_broken broken = broken (cond (conn.0 == 0) [] (leaves_from 0 script.structures))

    pub all_operator : conn.0 == 0 ≡ true → Leads forms items (own_lines conn script.lines) [] places next count more
        → WholeThrough forms items (works_of script conn) places count more next
    all_operator is leads = rw is (leads.through [] more next (ended next more))

    pub all_connector : (last : List Place) (most : Count) (done : Bool) → conn.0 == 0 ≡ false
        → Leads forms items (own_lines conn script.lines) [] places next count more
        → AreDone forms items (leaves_from 0 script.structures) next last more most done
        → AreAllDone forms items (works_of script conn) places last count most done
    all_connector last most true is leads done = rw is (leads.through (leaves_from 0 script.structures) most last
        (subst (λ (l : List Work). WholeThrough forms items l next more most last)
        (append-none (leaves_from 0 script.structures)) (done.through [] most last (ended last most))))
    all_connector last most false is leads done = rw is (leads.breaks (leaves_from 0 script.structures)
        (subst (λ (l : List Work). WholeBreaks forms l next) (append-none (leaves_from 0 script.structures)) (done [])))

-- ---- where a caller stands

module _ (conn : ConnId) where
  place_there : (histories : List AnyHistory) (spots : List Spot) (x : ℕ) (entries : AnyHistory) (spot : Spot)
      → slice_get histories x ≡ Some entries → slice_get spots x ≡ Some spot
      → get_or (places_at conn histories spots) x no_place ≡ place_of conn entries spot
  place_there [] spots x entries spot there at = absurd cc
  place_there (h ∷ hs) [] x entries spot there at = absurd cc
  place_there (h ∷ hs) (s ∷ ss) zero entries spot there at =
      let same : h ≡ entries = cc in let same_spot : s ≡ spot = cc in rw (same, same_spot) refl
  place_there (h ∷ hs) (s ∷ ss) (suc x) entries spot there at = place_there hs ss x entries spot there at

  place_set : (histories : List AnyHistory) (spots : List Spot) (x : ℕ) (entries : AnyHistory) (spot : Spot)
      → slice_get histories x ≡ Some entries
      → places_at conn histories (set spots x spot) ≡ set (places_at conn histories spots) x (place_of conn entries spot)
  place_set [] spots x entries spot there = absurd cc
  place_set (h ∷ hs) [] x entries spot there = refl
  place_set (h ∷ hs) (s ∷ ss) zero entries spot there = let same : h ≡ entries = cc in rw same refl
  place_set (h ∷ hs) (s ∷ ss) (suc x) entries spot there =
      ap (λ (l : List Place). place_of conn h s ∷ l) (place_set hs ss x entries spot there)

  pub places_begin : (histories : List AnyHistory)
      → places_at conn histories (replicate (length histories) no_spot) ≡ places_of histories conn
  places_begin [] = refl
  places_begin (AnyHistory.Cache entries ∷ hs) =
      ap (λ (l : List Place). place_of conn (AnyHistory.Cache entries) no_spot ∷ l) (places_begin hs)
  places_begin (AnyHistory.List entries ∷ hs) =
      ap (λ (l : List Place). place_of conn (AnyHistory.List entries) no_spot ∷ l) (places_begin hs)
  places_begin (AnyHistory.Lock entries ∷ hs) =
      ap (λ (l : List Place). place_of conn (AnyHistory.Lock entries) no_spot ∷ l) (places_begin hs)

  -- one work at its structure
  module _ (forms : List StrForm) (items : List Shown) (work : Work) (run : Ran) (histories : List AnyHistory)
      (spots : List Spot) (entries : AnyHistory) (spot after : Spot) (count more : Count)
      (there : slice_get histories (work_on work).0 ≡ Some entries)
      (at : slice_get spots (work_on work).0 ≡ Some spot)
      (is : work_ran forms work (place_of conn entries spot) ≡ run) where
    here : work_ran forms work (place_at (places_at conn histories spots) (work_on work)) ≡ run
    here = ap (work_ran forms work) (place_there histories spots (work_on work).0 entries spot there at) ∙ is

    work_done : (done : Bool) → IsDone items run count more (place_of conn entries after) done
        → IsWorkDone forms items work (places_at conn histories spots)
        (places_at conn histories (set spots (work_on work).0 after)) count more done
    work_done true t = record {
      rests = ap (λ (r : Ran). r.how) here ∙ t.rests;
      asked = subst (λ (r : Ran). AreAsked r.slots) (sym here) t.asked;
      counts = t.counts ∙ sym (ap (λ (r : Ran). counted items count r.slots) here);
      leaves = place_set histories spots (work_on work).0 entries after there
          ∙ ap (set (places_at conn histories spots) (work_on work).0)
          (t.leaves ∙ sym (ap (λ (r : Ran). r.place) here));
    }
    work_done false broken = λ rests asked.
        broken (sym (ap (λ (r : Ran). r.how) here) ∙ rests) (subst (λ (r : Ran). AreAsked r.slots) here asked)

  pub line_done : (forms : List StrForm) (items : List Shown) (line : Line) (histories : List AnyHistory)
      (spots : List Spot) (form : StrForm) (entries : AnyHistory) (spot after : Spot) (count more : Count) (done : Bool)
      → slice_get forms line.on.0 ≡ Some form → slice_get histories line.on.0 ≡ Some entries
      → slice_get spots line.on.0 ≡ Some spot
      → IsDone items (act_ran form line.on line.retry line.act (place_of conn entries spot)) count more
      (place_of conn entries after) done
      → IsWorkDone forms items (Does line) (places_at conn histories spots)
      (places_at conn histories (set spots line.on.0 after)) count more done
  line_done forms items line histories spots form entries spot after count more done known there at is =
      work_done forms items (Does line) (act_ran form line.on line.retry line.act (place_of conn entries spot)) histories
      spots entries spot after count more there at (rw known refl) done is

  pub depart_done : (forms : List StrForm) (items : List Shown) (number : ℕ) (histories : List AnyHistory)
      (spots : List Spot) (form : StrForm) (entries : AnyHistory) (spot after : Spot) (count more : Count) (done : Bool)
      → slice_get forms number ≡ Some form → slice_get histories number ≡ Some entries
      → slice_get spots number ≡ Some spot
      → IsDone items (leave_ran form.kind (record { 0 = number }) (place_of conn entries spot)) count more
      (place_of conn entries after) done
      → IsDeparted forms items number (places_at conn histories spots)
      (places_at conn histories (set spots number after)) count more done
  depart_done forms items number histories spots form entries spot after count more done known there at is form' known' =
      let same : form ≡ form' = cc in
      subst (λ (f : StrForm). IsWorkDone forms items (Leaves f.kind (record { 0 = number }))
      (places_at conn histories spots) (places_at conn histories (set spots number after)) count more done) same
      (work_done forms items (Leaves form.kind (record { 0 = number }))
      (leave_ran form.kind (record { 0 = number }) (place_of conn entries spot)) histories spots entries spot after count
      more there at refl done is)

  pub line_lacks : (forms : List StrForm) (line : Line) (place : Place) → length forms ≤ line.on.0
      → BreaksOff (work_ran forms (Does line) place)
  line_lacks forms line place past = rw (slice_get_past forms line.on.0 past) (λ rests asked. absurd cc)

  -- ---- whether each call has its place

  places_length : (histories : List AnyHistory) (spots : List Spot) → length spots ≡ length histories
      → length (places_at conn histories spots) ≡ length histories
  places_length [] spots long = refl
  places_length (h ∷ hs) [] long = absurd cc
  places_length (h ∷ hs) (s ∷ ss) long = ap suc (places_length hs ss (cc))

  -- none of the first ones, so many, has a call left
  abbrev pub AreUsedBelow : List AnyHistory → List Spot → ℕ → Type 0
  AreUsedBelow histories spots n =
      (x : ℕ) → x < n → (get_or (places_at conn histories spots) x no_place).left ≡ []

  pub used_more : (histories : List AnyHistory) (spots : List Spot) (n : ℕ) (entries : AnyHistory) (spot : Spot)
      → slice_get histories n ≡ Some entries → slice_get spots n ≡ Some spot → left_at conn entries spot.next ≡ []
      → AreUsedBelow histories spots n → AreUsedBelow histories spots (n + 1)
  used_more histories spots n entries spot there at none below x within = by_place (cases_lt x n)
    where
      by_place : (x < n) ⊎ (n ≤ x) → (get_or (places_at conn histories spots) x no_place).left ≡ []
      by_place (inl less) = below x less
      by_place (inr same) =
          let is : x ≡ n = omega (arith, same, within) in
          rw is (ap (λ (p : Place). p.left) (place_there histories spots n entries spot there at) ∙ none)

  pub used_all : (histories : List AnyHistory) (spots : List Spot) → length spots ≡ length histories
      → AreUsedBelow histories spots (length histories) → AreUsed (places_at conn histories spots)
  used_all histories spots long below x = by_place (cases_lt x (length histories))
    where
      by_place : (x < length histories) ⊎ (length histories ≤ x)
          → (get_or (places_at conn histories spots) x no_place).left ≡ []
      by_place (inl less) = below x less
      by_place (inr past) = ap (λ (p : Place). p.left) (get_or_past (places_at conn histories spots) x no_place
          (let size = places_length histories spots long in omega (arith, past, size)))

  pub used_not : (histories : List AnyHistory) (spots : List Spot) (n : ℕ) (entries : AnyHistory) (spot : Spot)
      → slice_get histories n ≡ Some entries → slice_get spots n ≡ Some spot
      → AreUsed (places_at conn histories spots) → left_at conn entries spot.next ≡ []
  used_not histories spots n entries spot there at used =
      sym (ap (λ (p : Place). p.left) (place_there histories spots n entries spot there at)) ∙ used n

-- ---- what is read of slices

read_at : {X : Type 0} (xs : List X) (i : ℕ) (x : X) → i < length xs → x ≡ get_or xs i x → slice_get xs i ≡ Some x
read_at xs i x within value = slice_get_read xs (length xs) i x refl within value

module _ (conn : ConnId) where
  pub line_read : (forms : List StrForm) (items : List Shown) (line : Line) (histories : List AnyHistory)
      (spots : List Spot) (form : StrForm) (entries : AnyHistory) (d after : Spot) (count more : Count) (done : Bool)
      (place : ℕ) → place ≡ line.on.0 → place < length forms → length histories ≡ length forms
      → length spots ≡ length forms → form ≡ get_or forms place form → entries ≡ get_or histories place entries
      → IsDone items (act_ran form line.on line.retry line.act (place_of conn entries (get_or spots place d))) count more
      (place_of conn entries after) done
      → IsWorkDone forms items (Does line) (places_at conn histories spots)
      (places_at conn histories (set spots place after)) count more done
  line_read forms items line histories spots form entries d after count more done place is few many same known there
      acted =
      let known' : slice_get forms line.on.0 ≡ Some form =
      subst (λ (n : ℕ). slice_get forms n ≡ Some form) is (read_at forms place form few known) in
      let there' : slice_get histories line.on.0 ≡ Some entries =
      subst (λ (n : ℕ). slice_get histories n ≡ Some entries) is
      (read_at histories place entries (omega (arith, few, many)) there) in
      let at : slice_get spots line.on.0 ≡ Some (get_or spots place d) =
      subst (λ (n : ℕ). slice_get spots n ≡ Some (get_or spots place d)) is
      (slice_get-get_or spots place d (omega (arith, few, same))) in
      subst (λ (n : ℕ). IsWorkDone forms items (Does line) (places_at conn histories spots)
      (places_at conn histories (set spots n after)) count more done) (sym is)
      (line_done conn forms items line histories spots form entries (get_or spots place d) after count more done known'
      there' at acted)

  pub depart_read : (forms : List StrForm) (items : List Shown) (number : ℕ) (histories : List AnyHistory)
      (spots : List Spot) (form other : StrForm) (entries : AnyHistory) (d after : Spot) (count more : Count)
      (done : Bool) (place : ℕ) → place ≡ number → number < length forms → length histories ≡ length forms
      → length spots ≡ length forms → form ≡ get_or forms place other → entries ≡ get_or histories place entries
      → IsDone items (leave_ran form.kind (record { 0 = number }) (place_of conn entries (get_or spots place d))) count
      more (place_of conn entries after) done
      → IsDeparted forms items number (places_at conn histories spots)
      (places_at conn histories (set spots place after)) count more done
  depart_read forms items number histories spots form other entries d after count more done place is few many same known
      there left =
      let few' : place < length forms = omega (arith, is, few) in
      let known' : slice_get forms number ≡ Some form =
      subst (λ (n : ℕ). slice_get forms n ≡ Some form) is
      (slice_get-get_or forms place other few' ∙ ap (λ (f : StrForm). Some f) (sym known)) in
      let there' : slice_get histories number ≡ Some entries =
      subst (λ (n : ℕ). slice_get histories n ≡ Some entries) is
      (read_at histories place entries (omega (arith, few', many)) there) in
      let at : slice_get spots number ≡ Some (get_or spots place d) =
      subst (λ (n : ℕ). slice_get spots n ≡ Some (get_or spots place d)) is
      (slice_get-get_or spots place d (omega (arith, few', same))) in
      subst (λ (n : ℕ). IsDeparted forms items number (places_at conn histories spots)
      (places_at conn histories (set spots n after)) count more done) (sym is)
      (depart_done conn forms items number histories spots form entries (get_or spots place d) after count more done
      known' there' at left)

  pub used_at : (histories : List AnyHistory) (spots : List Spot) (n : ℕ) (entries : AnyHistory) (d : Spot)
      → length spots ≡ length histories → n < length histories → entries ≡ get_or histories n entries
      → AreUsed (places_at conn histories spots) → left_at conn entries (get_or spots n d).next ≡ []
  used_at histories spots n entries d same few there used = used_not conn histories spots n entries (get_or spots n d)
      (read_at histories n entries few there) (slice_get-get_or spots n d (omega (arith, same, few))) used

  pub used_step : (histories : List AnyHistory) (spots : List Spot) (n : ℕ) (entries : AnyHistory) (d : Spot)
      → length spots ≡ length histories → n < length histories → entries ≡ get_or histories n entries
      → left_at conn entries (get_or spots n d).next ≡ [] → AreUsedBelow conn histories spots n
      → AreUsedBelow conn histories spots (n + 1)
  used_step histories spots n entries d same few there none below =
      used_more conn histories spots n entries (get_or spots n d) (read_at histories n entries few there)
      (slice_get-get_or spots n d (omega (arith, same, few))) none below

module _ (forms : List StrForm) (items : List Shown) (number : ℕ) (within : number < length forms) (works : List Work)
    (places next : List Place) (count more : Count)
    (leads : Leads forms items works (leaves_from number (drop number forms)) places next count more) where
  pub depart_goes : (then : List Place) (most : Count) → IsDeparted forms items number next then more most true
      → Leads forms items works (leaves_from (number + 1) (drop (number + 1) forms)) places then count most
  depart_goes then most departed =
      let it = get_within forms number within in
      depart_leads forms items number within it.0 it.1 works places next count more leads then most departed

  pub depart_fails : (then : List Place) (most : Count) → IsDeparted forms items number next then more most false
      → (others : List Work) → WholeBreaks forms (works ++ others) places
  depart_fails then most departed =
      let it = get_within forms number within in
      depart_breaks forms items number within it.0 it.1 works places next count more leads then most departed

-- ---- what is found of a caller

pub walk_breaks : (script : Script) (histories : List AnyHistory) (conn : ConnId) (items : List Shown)
    (start : List Place) → start ≡ places_of histories conn → WholeBreaks script.structures (works_of script conn) start
    → IsWalked script histories conn items None
walk_breaks script histories conn items start begins breaks ends used asked =
    subst (λ (p : List Place). WholeBreaks script.structures (works_of script conn) p) begins breaks ends asked

module _ (script : Script) (histories : List AnyHistory) (conn : ConnId) (items : List Shown) (start last : List Place)
    (count : Count) (begins : start ≡ places_of histories conn) where
  pub walk_whole : WholeThrough script.structures items (works_of script conn) start no_count count last → AreUsed last
      → IsWalked script histories conn items (Some count)
  walk_whole through used =
      let t : WholeThrough script.structures items (works_of script conn) (places_of histories conn) no_count count last =
      subst (λ (p : List Place). WholeThrough script.structures items (works_of script conn) p no_count count last) begins
      through in
      record { ends = t.ends; used = subst AreUsed t.leaves used; asked = t.asked; counts = t.counts }

  pub walk_left : WholeThrough script.structures items (works_of script conn) start no_count count last
      → (AreUsed last → ⊥) → IsWalked script histories conn items None
  walk_left through left ends used asked =
      let t : WholeThrough script.structures items (works_of script conn) (places_of histories conn) no_count count last =
      subst (λ (p : List Place). WholeThrough script.structures items (works_of script conn) p no_count count last) begins
      through in
      left (subst AreUsed (sym t.leaves) used)
