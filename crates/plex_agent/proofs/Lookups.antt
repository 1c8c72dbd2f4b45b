-- Elements of lists by their places; and the kinds of histories.
use Rattle.plex_agent.proofs.Imports.{◌≡◌, ℕ, zero, suc, List, [], ◌∷◌, ◌++◌, ◌∙◌, map, Some, refl, ap, subst, slice_get, option_map, unwrap_or, slice_get-map, slice_get_within, get_or_from_slice_get, All, All-nil, All-cons, All-head, All-tail, get_or, set, Kind, AnyHistory, type_of_kind, type_of_history, IsOfKind}

pub some_same : {X : Type 0} (x y : X) → Some x ≡ Some y → x ≡ y
some_same x y e = ap (λ o. unwrap_or o x) e

pub get_map : {X Y : Type 0} (f : X → Y) (xs : List X) (i : ℕ) (x : X) → slice_get xs i ≡ Some x
    → slice_get (map f xs) i ≡ Some (f x)
get_map f xs i x e = slice_get-map f xs i ∙ ap (option_map f) e

pub get_mapped : {X Y : Type 0} (f : X → Y) (xs : List X) (i : ℕ) (y : Y) → slice_get (map f xs) i ≡ Some y
    → (x : X) × (slice_get xs i ≡ Some x) × (f x ≡ y)
get_mapped f [] zero y e = absurd cc
get_mapped f [] (suc i) y e = absurd cc
get_mapped f (x ∷ xs) zero y e = (x, refl, some_same (f x) y e)
get_mapped f (x ∷ xs) (suc i) y e = get_mapped f xs i y e

pub all_get : {X : Type 0} (P : X → Type 0) (xs : List X) (i : ℕ) (x : X) → All P xs → slice_get xs i ≡ Some x → P x
all_get P xs i x all there = subst P (get_or_from_slice_get xs i x x there) (all i x (slice_get_within xs i x there))

pub all_front : {X : Type 0} (P : X → Type 0) (xs ys : List X) → All P (xs ++ ys) → All P xs
all_front P [] ys all = All-nil P
all_front P (x ∷ xs) ys all =
    All-cons P x xs (All-head P x (xs ++ ys) all) (all_front P xs ys (All-tail P x (xs ++ ys) all))

pub all_behind : {X : Type 0} (P : X → Type 0) (xs ys : List X) → All P (xs ++ ys) → All P ys
all_behind P [] ys all = all
all_behind P (x ∷ xs) ys all = all_behind P xs ys (All-tail P x (xs ++ ys) all)

-- ---- what holds of each element, and of what stands for one past the end

pub any_set : {X : Type 0} (P : X → Type 0) (d : X) (xs : List X) (i : ℕ) (y : X) → P y → ((j : ℕ) → P (get_or xs j d))
    → (j : ℕ) → P (get_or (set xs i y) j d)
any_set P d [] i y here each j = each j
any_set P d (x ∷ xs) zero y here each zero = here
any_set P d (x ∷ xs) zero y here each (suc j) = each (suc j)
any_set P d (x ∷ xs) (suc i) y here each zero = each zero
any_set P d (x ∷ xs) (suc i) y here each (suc j) = any_set P d xs i y here (λ k. each (suc k)) j

pub any_map : {X Y : Type 0} (P : Y → Type 0) (d : Y) (f : X → Y) (xs : List X) → P d → ((x : X) → P (f x)) → (j : ℕ)
    → P (get_or (map f xs) j d)
any_map P d f [] none each j = none
any_map P d f (x ∷ xs) none each zero = each x
any_map P d f (x ∷ xs) none each (suc j) = any_map P d f xs none each j

-- ---- histories

-- a history of the type of a kind is one of this kind
pub kind_of_type : (kind : Kind) (entries : AnyHistory) → type_of_history entries ≡ type_of_kind kind
    → IsOfKind kind entries
kind_of_type Kind.Cache (AnyHistory.Cache entries) same = tt
kind_of_type (Kind.List headers locks refs) (AnyHistory.List entries) same = tt
kind_of_type Kind.Lock (AnyHistory.Lock entries) same = tt
kind_of_type kind entries same = absurd cc
