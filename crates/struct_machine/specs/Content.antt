-- A structure's instances: one or two with the same content, or none; and the new one of a rebuild.
use Rattle.std.specs.Prelude.{ℕ, Bool, IsTrue, List, [], Option, None, Some, option_map}
use Rattle.cf_types.specs.declared.forms.Caps.{Caps}
use Rattle.cf_types.specs.declared.forms.Kind.{Kind}
use Rattle.duplex_pair.specs.Pairs.{PairView, instances_of, content_of}
use Rattle.engine_api.specs.declared.shapes.Shape.{Shape}
use Rattle.engine_api.specs.Instances.{Instances, no_instance}
use Rattle.engine_api.specs.Meaning.{Meaning, Held}
use Rattle.rebuild_copy.specs.Filling.{Fresh, FillingView, IsFillingOf, lacking, fresh_of, front_of}

pub record ContentView (E L : Type 0) : Type 0 where
  pub pair : PairView E L
  pub fresh : Option Fresh

-- where the instances stand, what each of them holds, and the new one
pub record Kept (S : Type 0) : Type 0 where
  pub at : Instances
  pub held : Option (Held S)
  pub fresh : Option Fresh

abbrev pub kept_of : {E L S : Type 0} → (E → Held S) → ContentView E L → Kept S
kept_of holds content =
    record { at = instances_of content.pair; held = content_of holds content.pair; fresh = content.fresh }

abbrev pub nothing_kept : {S : Type 0} → Kept S
nothing_kept = record { at = no_instance; held = None; fresh = None }

-- a new instance in which nothing is yet
abbrev pub new_fresh : {S : Type 0} → Held S → Fresh
new_fresh held = record { caps = held.caps; copied = 0 }

-- the new instance as contracts see it
abbrev pub fresh_in : {I O : Type 0} → Option (FillingView I O) → Option Fresh
fresh_in filling = option_map (λ f. fresh_of f.copy) filling

-- a copy begins anew
abbrev pub begun_anew : {I O : Type 0} → FillingView I O → FillingView I O
begun_anew filling = record { copy = record filling.copy { items = [] }; order = None }

module _ {C R I S : Type 0} (meaning : Meaning C R I S) where
  -- how many items the new instance lacks
  abbrev pub lacking_in : Option (Held S) → Option Fresh → ℕ
  lacking_in None fresh = 0
  lacking_in (Some held) fresh = lacking meaning held fresh

  -- the items that it has
  abbrev pub front_in : Option (Held S) → Option Fresh → List I
  front_in None fresh = []
  front_in (Some held) fresh = front_of meaning held fresh

  module _ (is_kind : Kind → Bool) (IsContent : Shape → Caps → S → Type 0) {O : Type 0}
      (IsOrder : O → Held S → Type 0) where
    -- a content of its shape and capacity
    pub record IsHeldAt (held : Held S) : Type 0 where
      pub kind : IsTrue (is_kind held.shape.kind)
      pub content : IsContent held.shape held.caps held.state

    -- a new instance stands beside a primary, and has the first of its items
    abbrev pub AreStanding : Option (Held S) → Option (FillingView I O) → Type 0
    AreStanding None None = Unit {0}
    AreStanding None (Some filling) = ⊥
    AreStanding (Some held) None = IsHeldAt held
    AreStanding (Some held) (Some filling) =
        IsHeldAt held × IsFillingOf meaning is_kind IsContent IsOrder filling held
