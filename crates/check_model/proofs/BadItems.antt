-- A transcript has one first bad item, and then isn't good.
use Rattle.std.proofs.Common.{◌≡◌, ℕ, ◌+◌, ◌-◌, ◌<◌, ◌≤◌, inl, inr, List, [], ◌∷◌, ◌++◌, length, take, drop, refl, sym, ap, subst, ◌∙◌, arith, append_assoc, take-append-drop, take_all}
use Rattle.std.proofs.lemmas.Bool.{cases_lt, cases_order}
use Rattle.caller_slots.specs.RunShown.CfTypes.declared.numbers.ConnId.{ConnId}
use Rattle.caller_slots.specs.RunShown.PlexScript.declared.asks.AnyHistory.{AnyHistory}
use Rattle.caller_slots.specs.RunShown.PlexScript.declared.scripts.Script.{Script}
use Rattle.caller_slots.specs.RunShown.PlexScript.declared.transcripts.Shown.{Shown}
use Rattle.check_model.specs.Judged.{IsGood, IsBadItem}

-- the items behind some, up to more of them
between : {X : Type 0} (xs : List X) (m n : ℕ) → m ≤ n → (mid : List X) × (take n xs ≡ take m xs ++ mid)
between xs m n few = go xs m n few
  where
    go : {X : Type 0} (xs : List X) (m n : ℕ) → m ≤ n → (mid : List X) × (take n xs ≡ take m xs ++ mid)
    go xs ℕ.zero n few = (take n xs, refl)
    go [] (ℕ.suc m) ℕ.zero few = absurd (omega (arith, few))
    go [] (ℕ.suc m) (ℕ.suc n) few = ([], refl)
    go (x ∷ xs) (ℕ.suc m) ℕ.zero few = absurd (omega (arith, few))
    go (x ∷ xs) (ℕ.suc m) (ℕ.suc n) few =
        let rest = go xs m n (omega (arith, few)) in (rest.0, ap (λ (l : _). x ∷ l) rest.1)

module _ (script : Script) (histories : List AnyHistory) (conn : ConnId) (items : List Shown) where
  abbrev Good : List Shown → Type 0
  Good some = IsGood script histories conn some

  pub bad_not_good : (item : ℕ) → IsBadItem script histories conn items item → Good items → ⊥
  bad_not_good item bad good = elim (cases_lt (length items) item) [
    | inl past ↦ bad.lacks (let last : item ≤ length items + 1 = bad.last in omega (arith, past, last)) good
    | inr within ↦ bad.here within (drop item items) (subst Good (sym (take-append-drop item items)) good)
  ]

  not_before : (a b : ℕ) → IsBadItem script histories conn items a → IsBadItem script histories conn items b → a < b
      → ⊥
  not_before a b one other less = elim other.before [
    | inl first ↦ let some : 1 ≤ a = one.some in omega (arith, first, less, some)
    | inr on ↦
        let mid = between items a (b - 1) (omega (arith, less)) in
        let last : b ≤ length items + 1 = other.last in
        one.here (omega (arith, less, last)) (mid.0 ++ on.0) (subst Good (ap (λ (l : List Shown). l ++ on.0) mid.1
        ∙ append_assoc (take a items) mid.0 on.0) on.1)
  ]

  pub one_item : (a b : ℕ) → IsBadItem script histories conn items a → IsBadItem script histories conn items b → a ≡ b
  one_item a b one other = elim (cases_order a b) [
    | inl same ↦ same
    | inr apart ↦ elim apart [
      | inl less ↦ absurd (not_before a b one other less)
      | inr more ↦ absurd (not_before b a other one more)
    ]
  ]
