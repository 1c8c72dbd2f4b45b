-- Which links are asked, and which marks that makes.
use Rattle.engine_api.proofs.Imports.{◌≡◌, ◌≤◌, ℕ, ◌==◌, Bool, true, false, ◌||◌, List, [], ◌∷◌, length, refl, arith, filter, Option, ◌++◌, eq-eqb, eqb-true, CfId, StrForm, ConnId, Refusal, Ask, Meaning, Machine, Shell, listed, asks_of, asked_unless, links_asked, Asks, has, AreDistinct, apart, reached, reached_in, marks_of, answers_to, trues}

pub same_cf : (x y : CfId) → x.0 == y.0 ≡ true → x ≡ y
same_cf x y e = grind (arith, eqb-true)

pub itself : (x : CfId) → x.0 == x.0 ≡ true
itself x = eq-eqb x.0 x.0 refl

pub or_true : (b : Bool) → b || true ≡ true
or_true b = grind arith

-- ---- answers that agree where links are asked

abbrev pub Agree : List CfId → (CfId → Bool) → (CfId → Bool) → Type 0
Agree xs d e = (cf : CfId) → has xs cf ≡ true → d cf ≡ e cf

pub agree_tail : (x : CfId) (xs : List CfId) (d e : CfId → Bool) → Agree (x ∷ xs) d e → Agree xs d e
agree_tail x xs d e agree cf h = agree cf (rw h (or_true (x.0 == cf.0)))

pub reached_agree : (stops : Bool) (d e : CfId → Bool) (xs : List CfId) → Agree (reached stops d xs) d e
    → reached stops d xs ≡ reached stops e xs
reached_agree stops d e [] agree = refl
reached_agree stops d e (x ∷ xs) agree = grind (arith, agree_tail, reached_agree stops d e xs)

pub filter_agreed : (d e : CfId → Bool) (xs : List CfId) → Agree xs d e → filter d xs ≡ filter e xs
filter_agreed d e [] agree = refl
filter_agreed d e (x ∷ xs) agree = grind (arith, agree_tail, itself, filter_agreed d e xs (agree_tail x xs d e agree))

-- the marks depend on the links that are asked alone
pub marks_agree : (asks : Asks) (d e : CfId → Bool) → Agree (reached_in d asks) d e
    → marks_of d asks ≡ marks_of e asks
marks_agree asks d e agree = grind (arith, filter_agreed, reached_agree)

-- ---- marks tell the answers

has_filtered : (d : CfId → Bool) (xs : List CfId) (cf : CfId) → d cf ≡ false → has (filter d xs) cf ≡ false
has_filtered d [] cf e = refl
has_filtered d (x ∷ xs) cf e = grind (arith, same_cf, has_filtered d xs cf e)

pub has_filter : (d : CfId → Bool) (xs : List CfId) (cf : CfId) → has xs cf ≡ true → has (filter d xs) cf ≡ d cf
has_filter d [] cf h = absurd cc
has_filter d (x ∷ xs) cf h = grind (arith, has_filtered, same_cf, has_filter d xs cf)

-- each link is asked once, so each is marked once
pub has_other : (xs : List CfId) (p : CfId → Bool) (cf : CfId) → has xs cf ≡ false → has (filter p xs) cf ≡ false
has_other [] p cf none = refl
has_other (x ∷ xs) p cf none = grind (arith, has_other xs p cf)

distinct_filter : (p : CfId → Bool) (xs : List CfId) → AreDistinct xs → AreDistinct (filter p xs)
distinct_filter p [] distinct = tt
distinct_filter p (x ∷ xs) distinct = grind (arith, has_other, distinct_filter p xs distinct.1)

pub distinct_apart : (xs : List CfId) → AreDistinct (apart xs)
distinct_apart [] = tt
distinct_apart (x ∷ xs) = grind (arith, has_filtered, itself, distinct_filter, distinct_apart xs)

-- how often a facility stands there
abbrev pub times : CfId → List CfId → ℕ
times cf xs = length (filter (λ x. x.0 == cf.0) xs)

never : (cf : CfId) (xs : List CfId) → has xs cf ≡ false → times cf xs ≡ 0
never cf [] none = refl
never cf (x ∷ xs) none = grind (arith, never cf xs)

once : (cf : CfId) (xs : List CfId) → AreDistinct xs → has xs cf ≡ true → times cf xs ≡ 1
once cf [] distinct there = absurd cc
once cf (x ∷ xs) distinct there = grind (arith, same_cf, never, once cf xs distinct.1)

has_reached : (stops : Bool) (d : CfId → Bool) (xs : List CfId) (cf : CfId) → has xs cf ≡ false
    → has (reached stops d xs) cf ≡ false
has_reached stops d [] cf none = refl
has_reached stops d (x ∷ xs) cf none = grind (arith, has_reached stops d xs cf)

distinct_reached : (stops : Bool) (d : CfId → Bool) (xs : List CfId) → AreDistinct xs
    → AreDistinct (reached stops d xs)
distinct_reached stops d [] distinct = tt
distinct_reached stops d (x ∷ xs) distinct = grind (arith, has_reached, distinct_reached stops d xs distinct.1)

pub marked_once : (down : CfId → Bool) (asks : Asks) (cf : CfId) → AreDistinct asks.links
    → times cf (marks_of down asks) ≡ trues (answers_to down asks cf)
marked_once down asks cf distinct =
    grind (arith, distinct_filter, distinct_reached, never, has_other, once, has_filter)

-- a group's marks tell what its links answered
pub answers_marked : (down : CfId → Bool) (asks : Asks) (cf : CfId)
    → answers_to (has (marks_of down asks)) asks cf ≡ answers_to down asks cf
answers_marked down asks cf = grind (arith, has_filter, reached_agree)

-- ---- how many there are

reached_few : (stops : Bool) (d : CfId → Bool) (xs : List CfId) → length (filter d (reached stops d xs)) ≤ length xs
reached_few stops d [] = omega arith
reached_few stops d (x ∷ xs) = grind (arith, reached_few stops d xs)

pub marks_few : (down : CfId → Bool) (asks : Asks) → length (marks_of down asks) ≤ length asks.links
marks_few down asks = reached_few asks.stops down asks.links

filter_few : (p : CfId → Bool) (xs : List CfId) → length (filter p xs) ≤ length xs
filter_few p [] = omega arith
filter_few p (x ∷ xs) = grind (arith, filter_few p xs)

apart_few : (xs : List CfId) → length (apart xs) ≤ length xs
apart_few [] = omega arith
apart_few (x ∷ xs) = grind (arith, filter_few, apart_few xs)

two_listed : (first second : Option CfId) → length (listed first ++ listed second) ≤ 2
two_listed first second = grind arith

two_of : {C : Type 0} (shell : Shell) (asked : Ask C) → (let asks = asks_of shell asked in length asks.links ≤ 2)
two_of shell asked = grind (arith, two_listed)

two_unless : (cause : Option Refusal) (asks : Asks) → length asks.links ≤ 2
    → (let asked = asked_unless cause asks in length asked.links ≤ 2)
two_unless cause asks few = grind (arith, apart_few)

-- a call asks two links at most
pub two_asked : {C R I S : Type 0} (meaning : Meaning C R I S) (form : StrForm) (machine : Machine S) (by : ConnId)
    (asked : Ask C) → (let asks = links_asked meaning form machine by asked in length asks.links ≤ 2)
two_asked meaning form machine by asked = grind (arith, two_unless, two_of)
