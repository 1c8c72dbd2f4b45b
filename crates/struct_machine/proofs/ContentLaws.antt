-- What becomes of a pair that loses one of two, and of a content that somebody leaves.
use Rattle.struct_machine.proofs.Imports.{arith, ◌≡◌, Bool, true, false, ◌||◌, [], Option, None, Some, option_map, refl, subst₂, IsTrue, is_some, Caps, Kind, CfId, ConnId, PairView, instances_of, without_at, Shape, is_at, IsNoMoreOf, Meaning, Held, with_departure, FillingView, copy_left, AreStanding, IsHeldAt, begun_anew, at_left}

-- the other is left, and is the primary
pub left_places : {E L : Type 0} (cf : CfId) (pair : PairView E L)
    → (is_at cf (instances_of pair).primary || is_at cf (instances_of pair).secondary) ≡ true
    → is_some (instances_of pair).primary ≡ true → is_some (instances_of pair).secondary ≡ true
    → (is_at cf (instances_of pair).primary ≡ true → is_at cf (instances_of pair).secondary ≡ false) → (instances_of
    (without_at cf pair) ≡ at_left cf (instances_of pair)) × (is_some (without_at cf pair).primary ≡ true)
left_places cf pair there stands two apart = grind arith

-- ---- a departure

module _ {C R I S : Type 0} (meaning : Meaning C R I S) (is_kind : Kind → Bool)
    (IsContent : Shape → Caps → S → Type 0) {O : Type 0} (IsOrder : O → Held S → Type 0) where
  -- what an engine promises of departures
  pub record LeaveLaws : Type 0 where
    pub content : (shape : Shape) (caps : Caps) (state : S) (conn : ConnId) (keep : Bool)
        → IsContent shape caps state → IsContent shape caps (meaning.leave shape state conn keep).state
    pub need : (shape : Shape) (caps : Caps) (state : S) (conn : ConnId) (keep : Bool)
        → IsTrue (is_kind shape.kind) → IsContent shape caps state → IsNoMoreOf shape.kind (meaning.need
        (meaning.items shape (meaning.leave shape state conn keep).state)) (meaning.need (meaning.items shape state))

  -- the copy begins anew
  pub left_standing : LeaveLaws → (was now : Option (Held S)) (filling after : Option (FillingView I O))
      (conn : ConnId) (keep : Bool) → now ≡ option_map (λ (held : Held S). with_departure meaning held conn keep) was
      → after ≡ option_map begun_anew filling → AreStanding meaning is_kind IsContent IsOrder was filling
      → AreStanding meaning is_kind IsContent IsOrder now after
  left_standing laws was now filling after conn keep same anew standing = grind (arith, subst₂, go)
    where
      held_left : (held : Held S) → IsHeldAt meaning is_kind IsContent IsOrder held
          → IsHeldAt meaning is_kind IsContent IsOrder (with_departure meaning held conn keep)
      held_left held is = grind arith

      go : (was : Option (Held S)) (filling : Option (FillingView I O))
          → AreStanding meaning is_kind IsContent IsOrder was filling → AreStanding meaning is_kind IsContent IsOrder
          (option_map (λ (held : Held S). with_departure meaning held conn keep) was) (option_map begun_anew filling)
      go None None standing = standing
      go None (Some filling) standing = standing
      go (Some held) None standing = held_left held standing
      go (Some held) (Some filling) standing = (
        held_left held standing.0,
        record {
          copy = copy_left meaning is_kind IsContent
              held (meaning.leave held.shape held.state conn keep).state (record filling.copy { items = [] })
              refl (laws.content held.shape held.caps held.state conn keep standing.0.content)
              (laws.need held.shape held.caps held.state conn keep standing.0.kind standing.0.content) (grind arith);
          ordered = tt;
        },
      )
