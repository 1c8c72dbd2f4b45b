-- Places of items, where all monitors and events are one in front of the others.
use Rattle.std.proofs.Common.{arith, ◌≡◌, ℕ, zero, suc, ◌+◌, ◌-◌, ◌<◌, List, ◌∷◌, length, slice_get, Some, refl}
use Rattle.list_model.specs.declared.items.ListItem.{ListItem}
use Rattle.queue_model.specs.declared.items.FirstItem.{FirstItem}
use Rattle.queue_model.specs.declared.items.FirstItem.TheVariants.{More, Inner}
use Rattle.queue_model.specs.declared.subs.Queued.{Queued}
use Rattle.queue_model.specs.FirstItems.{inners}
use Rattle.queue_model.proofs.ItemLaws.{length-inners, get-inners}

pub length-more : (more : Queued) (items : List ListItem) → 1 + length items ≡ length (More more ∷ inners items)
length-more more items = grind (arith, length-inners)

pub within-plain : (items : List ListItem) (k : ℕ) → k < length (inners {X = Queued} items) → k < length items
within-plain items k h = omega (arith, length-inners items, h)

pub within-more : (more : Queued) (items : List ListItem) (k : ℕ) → (k ≡ 0 → ⊥)
    → k < length (More more ∷ inners items) → k - 1 < length items
within-more more items k some h = omega (arith, length-inners items, some, h)

pub get-more : (more : Queued) (items : List ListItem) (k : ℕ) (item : ListItem) → (k ≡ 0 → ⊥)
    → slice_get items (k - 1) ≡ Some item → slice_get (More more ∷ inners items) k ≡ Some (Inner item)
get-more more items zero item some e = absurd (some refl)
get-more more items (suc k) item some e =
    let before : suc k - 1 ≡ k = omega arith in get-inners items k item (rw before at e)
