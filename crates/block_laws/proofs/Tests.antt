-- Which tests a history decides: those at its last call, and those that no longer history changes.
use Rattle.engine_api.proofs.Imports.{◌≡◌, ℕ, zero, suc, ◌+◌, ◌<◌, ◌≤◌, inl, inr, Bool, false, List, [], ◌∷◌, ◌++◌, length, take, filter, fold, refl, sym, ap, subst, ◌∙◌, arith, take_at, take-append-le, append_assoc, append-nil, length-append, map-append, filter-append, nat_tests, Contains, Contains-push_cases, ConnId, StrForm, Meaning, IsLegal, Call, calls, numbers, IsPoint, last_call_below, stands_after}
use Rattle.std.proofs.Common.{◌↔◌, nat_lt, map}
use Rattle.engine_api.specs.declared.{asks.What.What, histories.Entry.Entry}
use Rattle.std.proofs.lemmas.List.{take_all}
use Rattle.std.proofs.lemmas.List.Elements.{Contains-append_left, Contains-append_cases, Contains-push}
use Rattle.engine_api.specs.History.{Tells, last_number}
use Rattle.engine_api.proofs.HistoryLaws.{number_legal, calls-append}
use Rattle.engine_api.proofs.NumberLaws.{numbered_legal}
use Rattle.block_laws.specs.Blocks.{EndsBlock, TellsNow}
use Rattle.block_laws.proofs.Fits.{get_seam}

module _ {C R : Type 0} where
  -- the numbers of calls are above this
  abbrev pub Above : ℕ → List (Call C R) → Type 0
  Above low [] = Unit {0}
  Above low (call ∷ some) = (low < call.no) × Above low some

  above_filter : (low n : ℕ) (some : List (Call C R)) → Above low some → n ≤ low + 1
      → filter (λ call. nat_lt call.no n) some ≡ []
  above_filter low n [] above few = refl
  above_filter low n (call ∷ some) above few =
      let past : nat_lt call.no n ≡ false = grind (arith, nat_tests) in rw past (above_filter low n some above.1 few)

  above_contains : (low n : ℕ) (some : List (Call C R)) → Above low some
      → Contains (map (λ (call : Call C R). call.no) some) n → low < n
  above_contains low n [] above (k, few, e) = absurd (omega (arith, few))
  above_contains low n (call ∷ some) above (zero, few, e) =
      let is : call.no ≡ n = e in omega (arith, is, above.0)
  above_contains low n (call ∷ some) above (suc k, few, e) =
      above_contains low n some above.1 (k, omega (arith, few), e)

  numbers-append : (xs ys : List (Entry C R)) → numbers (xs ++ ys) ≡ numbers xs ++ numbers ys
  numbers-append xs ys = ap (map (λ (call : Call C R). call.no)) (calls-append xs ys)
      ∙ map-append (λ (call : Call C R). call.no) (calls xs) (calls ys)

  last_longer : (front back : List (Entry C R)) (n : ℕ) → Above (length front) (calls back) → n ≤ length front + 1
      → last_call_below (front ++ back) n ≡ last_call_below front n
  last_longer front back n above few =
      let p : Call C R → Bool = λ call. nat_lt call.no n in
      let none : filter p (calls back) ≡ [] = above_filter (length front) n (calls back) above few in
      let all : filter p (calls (front ++ back)) ≡ filter p (calls front) =
      grind (arith, calls-append, filter-append, append-nil) in
      ap (fold last_number 0) all

  point_more : (front back : List (Entry C R)) (n : ℕ) → IsPoint front n → IsPoint (front ++ back) n
  point_more front back n (inl none) = inl none
  point_more front back n (inr there) = inr (subst (λ (ns : List ℕ). Contains ns n) (sym (numbers-append front back))
      (Contains-append_left (numbers front) (numbers back) n there))

  point_front : (front back : List (Entry C R)) (n : ℕ) → Above (length front) (calls back) → n ≤ length front
      → IsPoint (front ++ back) n → IsPoint front n
  point_front front back n above few (inl none) = inl none
  point_front front back n above few (inr there) = elim (Contains-append_cases (numbers front)
      (numbers back) n (subst (λ (ns : List ℕ). Contains ns n) (numbers-append front back) there)) [
        | inl old ↦ inr old
        | inr new ↦ absurd (let past : length front < n = above_contains (length front) n (calls back) above new in
            omega (arith, past, few))
      ]

module _ {C R I S : Type 0} (meaning : Meaning C R I S) (form : StrForm) where
  above_from : (low : ℕ) (whole front back : List (Entry C R)) → IsLegal meaning form whole → whole ≡ front ++ back
      → low ≤ length front → Above low (calls back)
  above_from low whole front [] legal e few = tt
  above_from low whole front (entry ∷ back) legal e few = by_what entry.what
      refl (above_from low whole (front ++ entry ∷ []) back legal (e ∙ sym (append_assoc front (entry ∷ []) back))
      (let long = length-append front (entry ∷ []) in omega (arith, long, few)))
    where
      number : entry.no ≡ length front + 1
      number = number_legal meaning form whole legal (length front) entry (rw e (get_seam front entry back))

      by_what : (told : What C) → entry.what ≡ told → Above low (calls back) → Above low (calls (entry ∷ back))
      by_what (What.Call ask) is rest = rw is (omega (arith, number, few), rest)
      by_what (What.Lost cf) is rest = rw is rest

  -- ---- whatever comes behind

  pub tells_longer : (front back : List (Entry C R)) (n q : ℕ) (conn : ConnId) (index : ℕ) (bit : Bool)
      → IsLegal meaning form front → IsLegal meaning form (front ++ back) → n ≤ length front
      → Tells meaning form front n q conn index bit ↔ Tells meaning form (front ++ back) n q conn index bit
  tells_longer front back n q conn index bit legal legal' few =
      let above = above_from (length front) (front ++ back) front back legal' refl (omega arith) in
      let numbered = numbered_legal meaning form front legal in
      let stand : List (Entry C R) → Bool = λ h. stands_after meaning form h conn index in
      let here : take n (front ++ back) ≡ take n front = take-append-le n front back few in
      let last : last_call_below (front ++ back) n ≡ last_call_below front n =
      last_longer front back n above (omega (arith, few)) in
      let before : take (last_call_below (front ++ back) n) (front ++ back) ≡ take (last_call_below front n) front =
      ap (λ (k : ℕ). take k (front ++ back)) last
      ∙ take-append-le (last_call_below front n) front back (numbered.below n) in (
        λ told. record {
          point = point_more front back n told.point;
          seen = told.seen;
          stood = elim told.stood [
            | inl now ↦ inl (now ∙ ap stand (sym here))
            | inr old ↦ inr (old.0, old.1 ∙ ap stand (sym before))
          ];
        },
        λ told. record {
          point = point_front front back n above few told.point;
          seen = told.seen;
          stood = elim told.stood [
            | inl now ↦ inl (now ∙ ap stand here)
            | inr old ↦ inr (old.0, old.1 ∙ ap stand before)
          ];
        },
      )

  pub tells_past : (history : List (Entry C R)) (n q : ℕ) (conn : ConnId) (index : ℕ) (bit : Bool)
      → IsLegal meaning form history → length history < n → Tells meaning form history n q conn index bit → ⊥
  tells_past history n q conn index bit legal past told =
      let numbered = numbered_legal meaning form history legal in
      let few : n ≤ length history = numbered.within n told.point in
      omega (arith, past, few)

  pub tells_none : (history : List (Entry C R)) (q : ℕ) (conn : ConnId) (index : ℕ) (bit : Bool)
      → Tells meaning form history 0 q conn index bit ↔ ((q ≡ 0) × (bit ≡ stands_after meaning form [] conn index))
  tells_none history q conn index bit = (
    λ told. (
      (let seen : q ≤ 0 = told.seen in omega (arith, seen)),
      elim told.stood [
        | inl now ↦ now
        | inr old ↦ absurd (let less : q < 0 = old.0 in omega (arith, less))
      ],
    ),
    λ both. record { point = inl refl; seen = (let none : q ≡ 0 = both.0 in omega (arith, none)); stood = inl both.1 },
  )

  -- ---- at the last call

  module _ (before block : List (Entry C R)) (legal : IsLegal meaning form before)
      (legal' : IsLegal meaning form (before ++ block)) (ends : EndsBlock block) where
    abbrev whole : List (Entry C R)
    whole = before ++ block

    cut : whole ≡ (before ++ ends.marks) ++ ends.entry ∷ []
    cut = ap (λ (h : List (Entry C R)). before ++ h) ends.is ∙ sym (append_assoc before ends.marks (ends.entry ∷ []))

    long : length whole ≡ length (before ++ ends.marks) + 1
    long = ap (λ (h : List (Entry C R)). length h) cut ∙ length-append (before ++ ends.marks) (ends.entry ∷ [])

    behind : length before < length whole
    behind = let more = length-append before ends.marks in omega (arith, long, more)

    number : ends.entry.no ≡ length whole
    number = number_legal meaning form whole legal' (length (before ++ ends.marks)) ends.entry
        (rw cut (get_seam (before ++ ends.marks) ends.entry [])) ∙ sym long

    record IsLast : Type 0 where
      call : Call C R
      all : calls whole ≡ calls before ++ call ∷ []
      no_is : call.no ≡ length whole

    last : IsLast
    last =
        let call : Call C R = record {
          no = ends.entry.no;
          by = ends.entry.by;
          ask = ends.ask;
          reply = ends.entry.reply;
        } in
        let one : calls (ends.entry ∷ []) ≡ call ∷ [] = rw ends.asks refl in
        record {
          call = call;
          all = grind (arith, calls-append, cut, append-nil, append_assoc);
          no_is = number;
        }

    last_below : last_call_below whole (length whole) ≡ length before
    last_below =
        let numbered = numbered_legal meaning form before legal in
        let end : ℕ = length whole in
        let p : Call C R → Bool = λ call. nat_lt call.no end in
        let past : nat_lt last.call.no end ≡ false = grind (arith, nat_tests, last.no_is) in
        let only : filter p (last.call ∷ []) ≡ [] = rw past refl in
        let all : filter p (calls whole) ≡ filter p (calls before) =
        ap (filter p) last.all ∙ grind (arith, filter-append, append-nil) in
        ap (fold last_number 0) all ∙ numbered.ended end behind

    numbers_are : numbers whole ≡ numbers before ++ last.call.no ∷ []
    numbers_are = ap (map (λ (call : Call C R). call.no)) last.all
        ∙ map-append (λ (call : Call C R). call.no) (calls before) (last.call ∷ [])

    point : IsPoint whole (length whole)
    point = inr (subst (λ (ns : List ℕ). Contains ns (length whole)) (sym numbers_are) (subst (λ (n : ℕ). Contains
        (numbers before ++ last.call.no ∷ []) n) last.no_is (Contains-push (numbers before) last.call.no)))

    pub tells_now : (q : ℕ) (conn : ConnId) (index : ℕ) (bit : Bool) → Tells meaning form
        whole (length whole) q conn index bit ↔ TellsNow meaning form before block q conn index bit
    tells_now q conn index bit =
        let stand : List (Entry C R) → Bool = λ h. stands_after meaning form h conn index in
        let here : take (length whole) whole ≡ whole = take_all (length whole) whole (omega arith) in
        let old_is : take (last_call_below whole (length whole)) whole ≡ before =
        ap (λ (k : ℕ). take k whole) last_below ∙ take_at before block (length before) refl in (
          λ told. record {
            seen = told.seen;
            stood = elim told.stood [
              | inl now ↦ inl (now ∙ ap stand here)
              | inr old ↦ inr (old.0, old.1 ∙ ap stand old_is)
            ];
          },
          λ told. record {
            point = point;
            seen = told.seen;
            stood = elim told.stood [
              | inl now ↦ inl (now ∙ ap stand (sym here))
              | inr old ↦ inr (old.0, old.1 ∙ ap stand (sym old_is))
            ];
          },
        )

    pub tells_never : (n q : ℕ) (conn : ConnId) (index : ℕ) (bit : Bool) → length before < n → n < length whole
        → Tells meaning form whole n q conn index bit → ⊥
    tells_never n q conn index bit low high told = elim told.point [
      | inl none ↦ omega (arith, none, low)
      | inr there ↦ elim (Contains-push_cases (numbers before) last.call.no n
          (subst (λ (ns : List ℕ). Contains ns n) numbers_are there)) [
            | inl old ↦
                let numbered = numbered_legal meaning form before legal in
                let few : n ≤ length before = numbered.within n (inr old) in omega (arith, few, low)
            | inr new ↦ let is : last.call.no ≡ n = new in omega (arith, is, last.no_is, high)
          ]
    ]
