-- Items fill slots where there are as many, and each fills its own: so a transcript that doesn't follow the script has a
-- first place where it breaks off.
use Rattle.std.proofs.Common.{◌≡◌, ℕ, zero, suc, List, [], ◌∷◌, length, Some, slice_get, refl, ap, subst}
use Rattle.run_shown.specs.PlexScript.declared.transcripts.Shown.{Shown}
use Rattle.caller_slots.specs.Slots.{Slot, FillsOne, Fills}

pub fills_length : (slots : List Slot) (items : List Shown) → Fills slots items → length items ≡ length slots
fills_length [] [] fills = refl
fills_length [] (item ∷ items) fills = absurd fills
fills_length (slot ∷ slots) [] fills = absurd fills
fills_length (slot ∷ slots) (item ∷ items) fills = ap suc (fills_length slots items fills.1)

pub fills_each : (slots : List Slot) (items : List Shown) → Fills slots items → (k : ℕ) (slot : Slot) (item : Shown)
    → slice_get slots k ≡ Some slot → slice_get items k ≡ Some item → FillsOne slot item
fills_each [] [] fills k slot item at there = absurd cc
fills_each [] (item ∷ items) fills k slot item' at there = absurd fills
fills_each (slot ∷ slots) [] fills k slot' item at there = absurd fills
fills_each (slot ∷ slots) (item ∷ items) fills zero slot' item' at there =
    let same : slot ≡ slot' = cc in
    let same_item : item ≡ item' = cc in
    subst (λ (s : Slot). FillsOne s item') same (subst (FillsOne slot) same_item fills.0)
fills_each (slot ∷ slots) (item ∷ items) fills (suc k) slot' item' at there =
    fills_each slots items fills.1 k slot' item' at there

pub each_fills : (slots : List Slot) (items : List Shown) → length items ≡ length slots
    → ((k : ℕ) (slot : Slot) (item : Shown) → slice_get slots k ≡ Some slot → slice_get items k ≡ Some item
    → FillsOne slot item)
    → Fills slots items
each_fills [] [] long each = tt
each_fills [] (item ∷ items) long each = absurd cc
each_fills (slot ∷ slots) [] long each = absurd cc
each_fills (slot ∷ slots) (item ∷ items) long each =
    (each zero slot item refl refl, each_fills slots items (cc) (λ k. each (suc k)))
