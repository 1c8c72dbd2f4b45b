-- Lists that another list begins with; and a caller's own calls, heard by their numbers.
use Rattle.plex_agent.proofs.Imports.{◌≡◌, ℕ, ◌<◌, ◌==◌, Bool, true, false, List, [], ◌∷◌, ◌++◌, length, take, Some, refl, sym, ap, ◌∙◌, arith, append-nil, append_assoc, take-append_seam, ConnId, AnyCall, call_numbered, own_calls, Rising, own_same}
use Rattle.plex_agent.proofs.Spots.{is_same}

-- a list, and one that begins with it
pub record IsFront {X : Type 0} (xs ys : List X) : Type 0 where
  pub more : List X
  pub behind : ys ≡ xs ++ more

pub front_same : {X : Type 0} (xs : List X) → IsFront xs xs
front_same xs = record { more = []; behind = sym (append-nil xs) }

pub front_more : {X : Type 0} (xs ys : List X) → IsFront xs (xs ++ ys)
front_more xs ys = record { more = ys; behind = refl }

pub front_then : {X : Type 0} (xs ys zs : List X) → IsFront xs ys → IsFront ys zs → IsFront xs zs
front_then {X} xs ys zs first second = grind (arith, append_assoc)

pub take_front : {X : Type 0} (n : ℕ) (xs ys : List X) → n ≡ length xs → IsFront xs ys → take n ys ≡ xs
take_front n xs ys is front =
    ap (λ (k : ℕ). take k ys) is ∙ ap (take (length xs)) front.behind ∙ take-append_seam xs front.more

-- ---- a caller's own calls

-- where numbers rise, an own call's is above the number that they rise from, and the call is heard by its number
own_found : (low : ℕ) (calls : List AnyCall) (conn : ConnId) (front : List AnyCall) (call : AnyCall)
    (more : List AnyCall) → Rising low calls → own_calls calls conn ≡ front ++ call ∷ more
    → (low < call.no) × (call_numbered call.no calls ≡ Some call)
own_found low [] conn [] call more rise own = absurd cc
own_found low [] conn (x ∷ front) call more rise own = absurd cc
own_found low (first ∷ calls) conn front call more rise own = by_test (first.by.0 == conn.0) refl front own
    (λ front own. own_found first.no calls conn front call more rise.1 own)
  where
    past : (first.no < call.no) × (call_numbered call.no calls ≡ Some call)
        → (low < call.no) × (call_numbered call.no (first ∷ calls) ≡ Some call)
    past (above, found) = grind arith

    by_test : (b : Bool) → first.by.0 == conn.0 ≡ b → (front : List AnyCall) → own_calls (first ∷ calls)
        conn ≡ front ++ call ∷ more → ((front : List AnyCall) → own_calls calls conn ≡ front ++ call ∷ more
        → (first.no < call.no) × (call_numbered call.no calls ≡ Some call)) → (low < call.no)
        × (call_numbered call.no (first ∷ calls) ≡ Some call)
    by_test true same [] own rest = grind (arith, own_same, is_same)
    by_test true same (x ∷ front) own rest = past (rest front (cc (own_same first calls conn same)))
    by_test false apart front own rest = past (rest front (rw apart at own))

pub own_heard : (low : ℕ) (calls : List AnyCall) (conn : ConnId) (front : List AnyCall) (call : AnyCall)
    (more : List AnyCall)
    → Rising low calls → own_calls calls conn ≡ front ++ call ∷ more → call_numbered call.no calls ≡ Some call
own_heard low calls conn front call more rise own = (own_found low calls conn front call more rise own).1
