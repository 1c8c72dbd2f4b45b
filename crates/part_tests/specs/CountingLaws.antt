-- The laws of what the engine of the trials means.
use Rattle.std.proofs.Common.{◌≡◌, ℕ, ◌-◌, ◌≤◌, List, [], ◌∷◌, ◌++◌, length, take, fold, sym, ap, subst, ◌∙◌}
use Rattle.std.proofs.Common.{append_assoc, append-nil, length-append, take_at, le_refl, le-add_right, add-sub_cancel}
use Rattle.engine_api.specs.CfTypes.declared.forms.Kind.{Kind}
use Rattle.engine_api.specs.CfTypes.declared.forms.Kind.TheVariants as kind
use Rattle.engine_api.specs.Items.{IsNoMore, IsNoMoreOf}
use Rattle.part_tests.specs.Counting.{push, need_of}

made_behind : (xs ys : List ℕ) → fold push xs ys ≡ xs ++ ys
made_behind xs [] = sym (append-nil xs)
made_behind xs (y ∷ ys) = made_behind (push xs y) ys ∙ append_assoc xs (y ∷ []) ys

-- the numbers make the content again
pub made : (xs : List ℕ) → fold push [] xs ≡ xs
made xs = made_behind [] xs

length_before : (xs : List ℕ) (y : ℕ) → length xs ≡ length (push xs y) - 1
length_before xs y =
    sym (ap (λ (n : ℕ). n - 1) (length-append xs (y ∷ [])) ∙ add-sub_cancel (length xs) 1)

without_last : (xs ys : List ℕ) (y : ℕ) → ys ≡ push xs y → take (length ys - 1) ys ≡ xs
without_last xs ys y e =
    ap (λ (l : List ℕ). take (length l - 1) l) e
    ∙ take_at xs (y ∷ []) (length (push xs y) - 1) (length_before xs y)

-- the last of them goes
pub front_unplaced : (xs : List ℕ) (y : ℕ)
    → take (length (fold push [] (push xs y)) - 1) (fold push [] (push xs y)) ≡ fold push [] xs
front_unplaced xs y =
    without_last xs (fold push [] (push xs y)) y (made (push xs y)) ∙ sym (made xs)

-- the first ones need no more than all
pub first_need : (xs ys : List ℕ) → IsNoMore (need_of xs) (need_of (xs ++ ys))
first_need xs ys = (
  subst (λ (n : ℕ). length xs ≤ n) (sym (length-append xs ys))
      (le-add_right (length xs) (length ys)),
  le_refl 0,
)

pub same_need : (k : Kind) (xs : List ℕ) → IsNoMoreOf k (need_of xs) (need_of xs)
same_need kind.Cache xs = (le_refl (length xs), le_refl 0)
same_need (kind.List headers locks refs) xs = (le_refl (length xs), le_refl 0)
same_need kind.Lock xs = le_refl 0
