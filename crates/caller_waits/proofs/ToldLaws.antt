-- What a judge leaves of a queue: the same tests, each with whether it is told.
use Rattle.std.proofs.Common.{◌≡◌, ℕ, zero, suc, List, [], ◌∷◌, map, slice_get, Some, refl, sym, ap, subst, ◌∙◌, arith}
use Rattle.caller_slots.specs.RunShown.CfTypes.declared.forms.StrForm.{StrForm}
use Rattle.caller_slots.specs.RunShown.CfTypes.declared.numbers.ConnId.{ConnId}
use Rattle.caller_slots.specs.RunShown.PlexScript.declared.asks.AnyHistory.{AnyHistory}
use Rattle.caller_slots.specs.RunShown.Kinds.{AnyTells}
use Rattle.vector_waits.specs.declared.wait.Wait.{Wait}
use Rattle.vector_waits.specs.Waits.{untold}
use Rattle.caller_waits.specs.Tests.{AllTell}

first_same : (one other : Wait) (ones others : List Wait) → one ∷ ones ≡ other ∷ others → one ≡ other
first_same one other ones others is = cc

rest_same : (one other : Wait) (ones others : List Wait) → one ∷ ones ≡ other ∷ others → ones ≡ others
rest_same one other ones others is = cc

none_same : (one : Wait) (ones : List Wait) → one ∷ ones ≡ [] → ⊥
none_same one ones is = cc

module _ (form : StrForm) (entries : AnyHistory) (conn : ConnId) where
  abbrev Shows : Wait → Type 0
  Shows wait = AnyTells form entries wait.at wait.sure conn wait.index wait.bit

  -- what is told of each test is told of the tests as they were
  pub all_told : (waits judged : List Wait) → map untold judged ≡ map untold waits
      → ((i : ℕ) (wait : Wait) → slice_get judged i ≡ Some wait → Shows wait) → AllTell form entries conn waits
  all_told [] judged same each = tt
  all_told (wait ∷ waits) [] same each = absurd (none_same (untold wait) (map untold waits) (sym same))
  all_told (wait ∷ waits) (now ∷ judged) same each = (
    subst Shows (first_same (untold now) (untold wait) (map untold judged) (map untold waits) same) (each 0 now refl),
    all_told waits judged (rest_same (untold now) (untold wait) (map untold judged) (map untold waits) same)
        (λ i next at. each (suc i) next at),
  )

  -- a test that isn't told is one of those that were asked
  pub one_untold : (waits judged : List Wait) → map untold judged ≡ map untold waits → (i : ℕ) (now : Wait)
      → slice_get judged i ≡ Some now → (Shows now → ⊥)
      → (wait : Wait) × (slice_get waits i ≡ Some wait) × (Shows wait → ⊥)
  one_untold waits [] same i now at wrong = absurd (nowhere i at)
    where
      nowhere : (k : ℕ) → slice_get [] k ≡ Some now → ⊥
      nowhere k e = cc
  one_untold [] (first ∷ judged) same i now at wrong = absurd (none_same (untold first) (map untold judged) same)
  one_untold (wait ∷ waits) (first ∷ judged) same zero now at wrong =
      let is : first ≡ now = cc in
      let fits : untold now ≡ untold wait = ap untold (sym is)
      ∙ first_same (untold first) (untold wait) (map untold judged) (map untold waits) same in
      (wait, refl, λ shows. wrong (subst Shows (sym fits) shows))
  one_untold (wait ∷ waits) (first ∷ judged) same (suc i) now at wrong = one_untold waits
      judged (rest_same (untold first) (untold wait) (map untold judged) (map untold waits) same) i now at wrong
