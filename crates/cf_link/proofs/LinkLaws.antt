-- Links that were asked many times.
use Rattle.std.proofs.Common.{◌≡◌, ℕ, Bool, true, false, List, [], ◌∷◌, ◌++◌, length, refl, sym, ap, subst, ◌∙◌, arith}
use Rattle.std.specs.Prelude.{Option, None, Some, option_map, filter}
use Rattle.cf_io.specs.Count.{IsListed, RisesBy}
use Rattle.cf_link.specs.Links.{calls_after, Telling, IsAsTold, IsAskedAll, Tells}
use Rattle.cf_link.specs.{Asks.IsAsked, Tells.TellsEnough}

module _ {L : Type 0} (calls : L → Option ℕ) (downs : L → Option (List ℕ)) (faults : L → ℕ) where
  -- what was asked, and what was asked behind it
  pub asked-append : (xs ys : List Bool) (old middle new : L) → IsAskedAll calls downs faults xs old middle
      → IsAskedAll calls downs faults ys middle new → IsAskedAll calls downs faults (xs ++ ys) old new
  asked-append [] ys old middle new first second =
      subst (λ (l : L). IsAskedAll calls downs faults ys l new) first second
  asked-append (x ∷ xs) ys old middle new first second =
      (first.0, first.1, asked-append xs ys first.0 middle new first.2 second)

  -- a link's faults rose by the answers Down
  pub asked_faults : (answers : List Bool) (old new : L) → IsAskedAll calls downs faults answers old new
      → RisesBy (length (filter (λ down. down) answers)) (faults old) (faults new)
  asked_faults [] old new same below = let e : faults new ≡ faults old = ap faults same in omega arith
  asked_faults (true ∷ answers) old new asked below = grind (arith, asked_faults answers asked.0 new asked.2)
  asked_faults (false ∷ answers) old new asked below = grind (arith, asked_faults answers asked.0 new asked.2)

  option_map-twice : {X Y Z : Type 0} (f : X → Y) (g : Y → Z) (o : Option X)
      → option_map g (option_map f o) ≡ option_map (λ x. g (f x)) o
  option_map-twice f g None = refl
  option_map-twice f g (Some x) = refl

  option_map-same : {X : Type 0} (o : Option X) → option_map (λ x. x) o ≡ o
  option_map-same None = refl
  option_map-same (Some x) = refl

  -- its calls rose by the answers
  pub asked_calls : (answers : List Bool) (old new : L) → IsAskedAll calls downs faults answers old new
      → calls new ≡ option_map (calls_after answers) (calls old)
  asked_calls [] old new same = ap calls same ∙ sym (option_map-same (calls old))
  asked_calls (answer ∷ answers) old new asked =
      grind (arith, option_map-twice, asked_calls answers asked.0 new asked.2)

  asked_downs : (answers : List Bool) (old new : L) → IsAskedAll calls downs faults answers old new
      → downs new ≡ downs old
  asked_downs [] old new same = ap downs same
  asked_downs (answer ∷ answers) old new asked = asked_downs answers asked.0 new asked.2 ∙ asked.1.same

  -- the ask behind some others
  record IsCut (front : List Bool) (answer : Bool) (old : L) : Type 0 where
    before : L
    after : L
    fore : IsAskedAll calls downs faults front old before
    here : IsAsked calls downs faults answer before after

  cut_asked : (front : List Bool) (answer : Bool) (more : List Bool) (old new : L)
      → IsAskedAll calls downs faults (front ++ answer ∷ more) old new → IsCut front answer old
  cut_asked [] answer more old new asked = record { before = old; after = asked.0; fore = refl; here = asked.1 }
  cut_asked (first ∷ front) answer more old new asked = grind (arith, cut_asked front answer more asked.0 new asked.2)

  none_listed : (told : Telling) (count : ℕ) → TellsEnough None (Some told.downs) → ¬ IsListed told.downs count
  none_listed told count enough listed = grind arith

  -- and where it tells which calls are down, those were
  pub asked_told : (told : Telling) (answers : List Bool) (old new : L) → TellsEnough (calls old) (downs old)
      → Tells calls downs faults told old → IsAskedAll calls downs faults answers old new → IsAsTold told answers
  asked_told told answers old new enough tells asked front answer more e =
      grind (arith, cut_asked, asked_downs, asked_calls, none_listed)
