-- A caller's own calls: each is heard by its number.
use Rattle.std.proofs.Common.{◌≡◌, ℕ, ◌<◌, ◌==◌, Bool, true, false, List, [], ◌∷◌, ◌++◌, Some, refl, sym, ap, subst, ◌∙◌, arith, append_assoc}
use Rattle.std.proofs.lemmas.Bool.Decides.{nat_tests}
use Rattle.run_shown.specs.CfTypes.declared.numbers.ConnId.{ConnId}
use Rattle.run_shown.specs.CfTypes.declared.numbers.StrNo.{StrNo}
use Rattle.run_shown.specs.PlexScript.Heard.{AnyCall, call_numbered, own_calls}
use Rattle.run_shown.specs.Kinds.{Rising}

pub itself : (n : ℕ) → n == n ≡ true
itself n = grind (arith, nat_tests)

pub same_number : (x y : ℕ) → x == y ≡ true → x ≡ y
same_number x y same = grind (arith, nat_tests)

pub same_place : (on other : StrNo) → on.0 == other.0 ≡ true → on ≡ other
same_place on other same =
    ap (λ (n : ℕ). (let it : StrNo = record { 0 = n } in it)) (same_number on.0 other.0 same)

pub same_caller : (by other : ConnId) → by.0 == other.0 ≡ true → by ≡ other
same_caller by other same =
    ap (λ (n : ℕ). (let it : ConnId = record { 0 = n } in it)) (same_number by.0 other.0 same)

-- the call with this number, of this caller
pub record IsOwn (calls : List AnyCall) (conn : ConnId) (call : AnyCall) : Type 0 where
  pub found : call_numbered call.no calls ≡ Some call
  pub by : call.by ≡ conn

own_first : (first : AnyCall) (calls : List AnyCall) (conn : ConnId) → first.by.0 == conn.0 ≡ true
    → own_calls (first ∷ calls) conn ≡ first ∷ own_calls calls conn
own_first first calls conn same = rw same refl

own_skip : (first : AnyCall) (calls : List AnyCall) (conn : ConnId) → first.by.0 == conn.0 ≡ false
    → own_calls (first ∷ calls) conn ≡ own_calls calls conn
own_skip first calls conn apart = rw apart refl

own_above : (low : ℕ) (calls : List AnyCall) (conn : ConnId) (front : List AnyCall) (call : AnyCall)
    (more : List AnyCall)
    → Rising low calls → own_calls calls conn ≡ front ++ call ∷ more → low < call.no
own_above low [] conn [] call more rise own = absurd cc
own_above low [] conn (x ∷ front) call more rise own = absurd cc
own_above low (first ∷ calls) conn front call more rise own =
    by_test (first.by.0 == conn.0) refl front own
    (λ (front : List AnyCall) (own : own_calls calls conn ≡ front ++ call ∷ more).
    own_above first.no calls conn front call more rise.1 own)
  where
    by_test : (b : Bool) → first.by.0 == conn.0 ≡ b → (front : List AnyCall)
        → own_calls (first ∷ calls) conn ≡ front ++ call ∷ more
        → ((front : List AnyCall) → own_calls calls conn ≡ front ++ call ∷ more → first.no < call.no) → low < call.no
    by_test true same [] own rest =
        let both : first ∷ own_calls calls conn ≡ call ∷ more = sym (own_first first calls conn same) ∙ own in
        let is : first ≡ call = cc in
        subst (λ (c : AnyCall). low < c.no) is rise.0
    by_test true same (x ∷ front) own rest =
        let both : first ∷ own_calls calls conn ≡ x ∷ (front ++ call ∷ more) = sym (own_first first calls conn same)
        ∙ own in
        let others : own_calls calls conn ≡ front ++ call ∷ more = cc in
        omega (arith, rise.0, rest front others)
    by_test false apart front own rest =
        omega (arith, rise.0, rest front (sym (own_skip first calls conn apart) ∙ own))

pub own_heard : (low : ℕ) (calls : List AnyCall) (conn : ConnId) (front : List AnyCall) (call : AnyCall)
    (more : List AnyCall)
    → Rising low calls → own_calls calls conn ≡ front ++ call ∷ more → IsOwn calls conn call
own_heard low [] conn [] call more rise own = absurd cc
own_heard low [] conn (x ∷ front) call more rise own = absurd cc
own_heard low (first ∷ calls) conn front call more rise own =
    by_test (first.by.0 == conn.0) refl front own
    (λ (front : List AnyCall) (own : own_calls calls conn ≡ front ++ call ∷ more).
    own_heard first.no calls conn front call more rise.1 own)
  where
    past : first.no < call.no → IsOwn calls conn call → IsOwn (first ∷ calls) conn call
    past above is =
        let apart : first.no == call.no ≡ false = grind (arith, nat_tests) in
        record { found = rw apart is.found; by = is.by }

    by_test : (b : Bool) → first.by.0 == conn.0 ≡ b → (front : List AnyCall)
        → own_calls (first ∷ calls) conn ≡ front ++ call ∷ more
        → ((front : List AnyCall) → own_calls calls conn ≡ front ++ call ∷ more → IsOwn calls conn call)
        → IsOwn (first ∷ calls) conn call
    by_test true same [] own rest =
        let both : first ∷ own_calls calls conn ≡ call ∷ more = sym (own_first first calls conn same) ∙ own in
        let is : first ≡ call = cc in
        subst (λ (c : AnyCall). IsOwn (first ∷ calls) conn c) is
        (record { found = rw (itself first.no) refl; by = same_caller first.by conn same })
    by_test true same (x ∷ front) own rest =
        let both : first ∷ own_calls calls conn ≡ x ∷ (front ++ call ∷ more) = sym (own_first first calls conn same)
        ∙ own in
        let others : own_calls calls conn ≡ front ++ call ∷ more = cc in
        past (own_above first.no calls conn front call more rise.1 others) (rest front others)
    by_test false apart front own rest =
        let others : own_calls calls conn ≡ front ++ call ∷ more = sym (own_skip first calls conn apart) ∙ own in
        past (own_above first.no calls conn front call more rise.1 others) (rest front others)

-- each of some calls is the caller's, and heard by its number
abbrev pub AreOwn : List AnyCall → ConnId → List AnyCall → Type 0
AreOwn calls conn [] = Unit {0}
AreOwn calls conn (call ∷ left) = IsOwn calls conn call × AreOwn calls conn left

pub own_left : (calls : List AnyCall) (conn : ConnId) (used left : List AnyCall) → Rising 0 calls
    → own_calls calls conn ≡ used ++ left → AreOwn calls conn left
own_left calls conn used [] rise split = tt
own_left calls conn used (call ∷ left) rise split = (
  own_heard 0 calls conn used call left rise split,
  own_left calls conn (used ++ call ∷ []) left rise (split ∙ sym (append_assoc used (call ∷ []) left)),
)
