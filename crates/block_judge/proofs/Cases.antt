-- What marks and a call are to the machine, by how many marks there are.
use Rattle.engine_api.proofs.Imports.{◌≡◌, ℕ, ◌+◌, inl, inr, Bool, true, false, List, [], ◌∷◌, Some, refl, sym, ap, subst, arith, CfId, StrForm, Meaning, Machine, step, loss_step, links_asked, Asks, AreSome, AreMarksOf}
use Rattle.std.proofs.Common.{◌↔◌}
use Rattle.std.specs.Prelude.{All, ◌≤◌, length, Result, Ok, Err, IfOk, OnOk}
use Rattle.std.proofs.lemmas.Bool.{false≢true}
use Rattle.std.proofs.lemmas.List.Elements.{All-head, All-tail}
use Rattle.cf_types.specs.Forms.{IsFacility}
use Rattle.engine_api.specs.declared.{asks.Ask.Ask, asks.What.What, histories.Entry.Entry}
use Rattle.block_laws.specs.Steps.{AreMarksAt, CallFits, MarkFits, StepsFit, AreNext}
use Rattle.block_laws.proofs.Stands.{no_third}
use Rattle.block_judge.specs.Fits.{facility_told, IsBlockJudged}

-- ---- facilities of marks

some_facility : (links : List CfId) (cf : CfId) (more : List CfId) → All IsFacility links
    → AreSome (cf ∷ more) links → IsFacility cf
some_facility [] cf more all some = absurd cc
some_facility (x ∷ xs) cf more all (inl rest) = some_facility xs cf more (All-tail IsFacility x xs all) rest
some_facility (x ∷ xs) cf more all (inr here) =
    let same : cf ≡ x = (let e = here.1 in cc) in subst IsFacility (sym same) (All-head IsFacility x xs all)

other_facility : (links : List CfId) (cf other : CfId) (more : List CfId) → All IsFacility links
    → AreSome (cf ∷ other ∷ more) links → IsFacility other
other_facility [] cf other more all some = absurd cc
other_facility (x ∷ xs) cf other more all (inl rest) =
    other_facility xs cf other more (All-tail IsFacility x xs all) rest
other_facility (x ∷ xs) cf other more all (inr here) =
    let same : here.0 ≡ other ∷ more = (let e = here.1 in cc) in
    some_facility xs other more (All-tail IsFacility x xs all) (subst (λ (l : List CfId). AreSome l xs) same here.2)

pub first_in : (asks : Asks) (cf : CfId) (more : List CfId) → All IsFacility asks.links → AreMarksOf asks (cf ∷ more)
    → IsFacility cf
first_in asks cf more all marked = some_facility asks.links cf more all marked.some

pub other_in : (asks : Asks) (cf other : CfId) (more : List CfId) → All IsFacility asks.links
    → AreMarksOf asks (cf ∷ other ∷ more) → IsFacility other
other_in asks cf other more all marked = other_facility asks.links cf other more all marked.some

is_lost : {C : Type 0} (told : What C) (cf : CfId) → facility_told told ≡ Some cf → told ≡ What.Lost cf
is_lost (What.Call ask) cf e = absurd cc
is_lost (What.Lost x) cf e = let same : x ≡ cf = cc in ap (λ (c : CfId). What.Lost c) same

same_facility : {C : Type 0} (told : What C) (x cf : CfId) → told ≡ What.Lost x → facility_told told ≡ Some cf → x ≡ cf
same_facility told x cf is e = let some : Some x ≡ Some cf = rw is at e in cc

none_some : (links : List CfId) → AreSome [] links
none_some [] = refl
none_some (x ∷ xs) = inl (none_some xs)

no_marks : (asks : Asks) → AreMarksOf asks []
no_marks asks = record { some = none_some asks.links; one = λ stops. omega arith }

-- ---- the machine's next entries

module _ {C R I S : Type 0} (meaning : Meaning C R I S) (form : StrForm) (old : Machine S) (count : ℕ)
    (entry : Entry C R) (ask : Ask C) (is : entry.what ≡ What.Call ask) (new : Machine S) where
  abbrev asks : Asks
  asks = links_asked meaning form old entry.by ask

  abbrev Judged : List (Entry C R) → Bool → Type 0
  Judged marks fits = IsBlockJudged meaning form old new count marks entry ask fits

  abbrev lost_at : Machine S → CfId → Machine S
  lost_at machine cf = (loss_step meaning form machine cf).machine

  abbrev done_at : Machine S → Machine S
  done_at machine = (step meaning form machine entry.by ask).machine

  pub unfit : (marks : List (Entry C R)) → (AreNext meaning form old count marks entry ask → ⊥) → Judged marks false
  unfit marks not = record {
    told = (λ yes. absurd (false≢true yes), λ next. absurd (not next));
    left = λ yes. absurd (false≢true yes);
  }

  pub alone : (fits : Bool) → (fits ≡ true) ↔ CallFits meaning form old count entry ask → new ≡ done_at old
      → Judged [] fits
  alone fits told left = record {
    told = (
      λ yes. record { cfs = []; lost = tt; marked = no_marks asks; steps = told.0 yes },
      λ next. told.1 next.steps,
    );
    left = λ yes. rw is left;
  }

  pub alone_answered : {X : Type 0} (result : Result Bool X) → IfOk result (λ fits. (fits ≡ true)
      ↔ CallFits meaning form old count entry ask) → OnOk result (new ≡ done_at old) → IfOk result (Judged [])
  alone_answered (Ok fits) told left = alone fits told left
  alone_answered (Err fault) told left = tt

  -- two marks

  abbrev TwoFit : Entry C R → CfId → Entry C R → CfId → Type 0
  TwoFit mark cf other next = MarkFits meaning form old count mark cf × MarkFits meaning form (lost_at old cf)
      (count + 1) other next × CallFits meaning form (lost_at (lost_at old cf) next) (count + 1 + 1) entry ask

  two_next : (mark other : Entry C R) (cf next : CfId) → facility_told mark.what ≡ Some cf
      → facility_told other.what ≡ Some next → AreNext meaning form old count (mark ∷ other ∷ []) entry ask
      → AreMarksOf asks (cf ∷ next ∷ []) × TwoFit mark cf other next
  two_next mark other cf next lost also fits = by_cfs fits.cfs fits.lost fits.marked fits.steps
    where
      tail : (x y : CfId) → AreMarksAt (other ∷ []) (y ∷ []) → y ≡ next
      tail x y at = same_facility other.what y next at.0 also

      by_cfs : (cfs : List CfId) → AreMarksAt (mark ∷ other ∷ []) cfs → AreMarksOf asks cfs → StepsFit meaning form
          old count (mark ∷ other ∷ []) cfs entry ask → AreMarksOf asks (cf ∷ next ∷ []) × TwoFit mark cf other next
      by_cfs [] at marked steps = absurd at
      by_cfs (x ∷ []) at marked steps = absurd at.1
      by_cfs (x ∷ y ∷ []) at marked steps =
          let same : x ≡ cf = same_facility mark.what x cf at.0 lost in
          let second : y ≡ next = tail x y at.1 in
          let more : StepsFit meaning form (lost_at old x) (count + 1) (other ∷ []) (y ∷ []) entry ask = steps.1 in
          let both : AreMarksOf asks (x ∷ next ∷ []) × TwoFit mark x other next = subst (λ (c : CfId). AreMarksOf
          asks (x ∷ c ∷ []) × TwoFit mark x other c) second (marked, (steps.0, more.0, more.1)) in
          subst (λ (c : CfId). AreMarksOf asks (c ∷ next ∷ []) × TwoFit mark c other next) same both
      by_cfs (x ∷ y ∷ z ∷ more) at marked steps =
          absurd (let behind : AreMarksAt (other ∷ []) (y ∷ z ∷ more) = at.1 in behind.1)

  pub two_marked : (mark other : Entry C R) (cf next : CfId) (fits : Bool) → facility_told mark.what ≡ Some cf
      → facility_told other.what ≡ Some next → AreMarksOf asks (cf ∷ next ∷ []) → (fits ≡ true) ↔ TwoFit mark
      cf other next → (fits ≡ true → new ≡ done_at (lost_at (lost_at old cf) next)) → Judged (mark ∷ other ∷ []) fits
  two_marked mark other cf next fits lost also marked told left =
      let at = is_lost mark.what cf lost in
      let behind = is_lost other.what next also in
      record {
        told = (
          λ yes. (let all = told.0 yes in
              record {
                cfs = cf ∷ next ∷ [];
                lost = (at, (behind, tt));
                marked = marked;
                steps = (all.0, (all.1, all.2));
              }),
          λ fit. told.1 (two_next mark other cf next lost also fit).1,
        );
        left = λ yes. rw (at, behind, is) (left yes);
      }

  pub two_answered : {X : Type 0} (mark other : Entry C R) (cf next : CfId) (result : Result Bool X)
      → facility_told mark.what ≡ Some cf → facility_told other.what ≡ Some next → AreMarksOf asks (cf ∷ next ∷ [])
      → IfOk result (λ fits. (fits ≡ true) ↔ TwoFit mark cf other next) → IfOk result
      (λ fits. fits ≡ true → new ≡ done_at (lost_at (lost_at old cf) next)) → IfOk result (Judged (mark ∷ other ∷ []))
  two_answered mark other cf next (Ok fits) lost also marked told left =
      two_marked mark other cf next fits lost also marked told left
  two_answered mark other cf next (Err fault) lost also marked told left = tt

  -- more

  three_lost : (a b c : Entry C R) (marks : List (Entry C R)) (cfs : List CfId) → AreMarksAt (a ∷ b ∷ c ∷ marks) cfs
      → AreMarksOf asks cfs → ⊥
  three_lost a b c marks [] lost marked = lost
  three_lost a b c marks (x ∷ []) lost marked = lost.1
  three_lost a b c marks (x ∷ y ∷ []) lost marked =
      let behind : AreMarksAt (b ∷ c ∷ marks) (y ∷ []) = lost.1 in behind.1
  three_lost a b c marks (x ∷ y ∷ z ∷ more) lost marked = no_third meaning form old entry.by ask x y z more marked

  pub three : (a b c : Entry C R) (marks : List (Entry C R)) → Judged (a ∷ b ∷ c ∷ marks) false
  three a b c marks = unfit (a ∷ b ∷ c ∷ marks) (λ fits. three_lost a b c marks fits.cfs fits.lost fits.marked)

  pub too_many : (marks : List (Entry C R)) → 3 ≤ length marks → Judged marks false
  too_many [] many = absurd (omega (arith, many))
  too_many (a ∷ []) many = absurd (omega (arith, many))
  too_many (a ∷ b ∷ []) many = absurd (omega (arith, many))
  too_many (a ∷ b ∷ c ∷ marks) many = three a b c marks
