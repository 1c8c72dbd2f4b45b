-- Interests that are added, changed or taken away stay in their order, one for a connector and resource, and
-- compatible.
use Rattle.lock_model.proofs.Imports.{◌≡◌, ℕ, ◌≤◌, Bool, true, false, not, ◌&&◌, ◌||◌, ◌==◌, List, [], ◌∷◌, filter, map, refl, sym, ap, ◌∙◌, subst, arith, list_all, and_parts, and_from, nat_tests, list_all-map, sum_by-cons, any-filter_same, ConnId, Resource, resource_up_to, Part, same_part, same_part-eq, same_part_comm, same_resource_comm, resource_up_to-either, resource_up_to-trans, pairwise, list_all-filter, list_all-filter_same, list_all_weaker, list_all_both, list_all_always, list_any-insertion, FindsPlace, pairwise-filter, pairwise-insertion, pairwise-insertion_any, pairwise-map, Held, Interest, AreInterests, is_of, has_interest, interests_without, interests_with, may_coexist, may_own, stands_up_to, parts_apart, owners_agree, records_of, records_owned}

-- ---- two interests

abbrev pub part_of : Interest → Part
part_of interest = (interest.held.r, interest.held.conn)

pub turned : (a b : ℕ) → (a == b) ≡ (b == a)
turned a b = grind (arith, nat_tests)

pub agree_parts : (p q x y m n : Bool) → p ≡ q → x ≡ y → m ≡ n → not p || (x || m) ≡ not q || (y || n)
agree_parts p q x y m n e f g = rw (e, f, g) refl

pub agree_sym : (a b : Held) → may_coexist a b ≡ may_coexist b a
agree_sym a b = grind (arith, agree_parts, same_resource_comm, turned)

apart_sym : (x y : Interest) → parts_apart x y ≡ parts_apart y x
apart_sym x y = ap not (same_part_comm (part_of x) (part_of y))

both : (b c : Bool) → b ≡ true → c ≡ b → b && c ≡ true
both b c h e = and_from b c h (e ∙ h)

-- ---- some of the interests

pub interests-filter : (q : Interest → Bool) (interests : List Interest) → AreInterests interests
    → AreInterests (filter q interests)
interests-filter q interests are = grind (arith, pairwise-filter)

-- ---- one more interest

finds : (x : Interest) → FindsPlace stands_up_to (λ other. stands_up_to other x) (λ y. true) x
finds x = grind (arith, resource_up_to-either, resource_up_to-trans)

pub interests-with : (x : Interest) (interests : List Interest)
    → AreInterests interests → may_own x.held interests ≡ true → AreInterests (interests_with x interests)
interests-with x interests are may =
    let rest = interests_without x.held.r x.held.conn interests in
    let before : Interest → Bool = λ other. stands_up_to other x in
    let few = interests-filter (λ other. not (is_of x.held.r x.held.conn other)) interests are in
    record {
      ordered = pairwise-insertion stands_up_to before (λ y. true) x rest (finds x)
          (list_all_always (λ y. true) (λ y. refl) rest) few.ordered;
      one_each = pairwise-insertion_any parts_apart before x rest few.one_each
          (list_all_weaker (λ y. not (is_of x.held.r x.held.conn y)) (λ y. parts_apart x y && parts_apart y x)
          (grind (arith, and_from, apart_sym)) rest (grind (arith, list_all-filter_same)));
      compatible = pairwise-insertion_any owners_agree before x rest few.compatible (list_all_weaker
          (λ y. may_coexist x.held y.held) (λ y. owners_agree x y && owners_agree y x) (λ y h. both (owners_agree x y)
          (owners_agree y x) h (agree_sym y.held x.held)) rest (grind (arith, list_all-filter)));
    }

pub has-filter : (r : Resource) (conn : ConnId) (q : Interest → Bool) → ((x : Interest) → is_of r conn x ≡ true → q
    x ≡ true) → (interests : List Interest) → has_interest r conn (filter q interests) ≡ has_interest r conn interests
has-filter r conn q h interests = any-filter_same (is_of r conn) q true h interests

-- what is of one part isn't of another
pub other_part : (x y : Interest) (r : Resource) (conn : ConnId) → is_of r conn x ≡ false → is_of r conn y ≡ true
    → not (is_of x.held.r x.held.conn y) ≡ true
other_part x y r conn out is =
    let named : Part = (r, conn) in
    let it : part_of y ≡ named = same_part-eq (part_of y) named is in
    ap not (subst (λ (p : Part). same_part p (part_of x) ≡ false) (sym it) (same_part_comm named (part_of x) ∙ out))

pub has-with : (r : Resource) (conn : ConnId) (x : Interest) (interests : List Interest) → is_of r conn x ≡ false
    → has_interest r conn (interests_with x interests) ≡ has_interest r conn interests
has-with r conn x interests out = grind (arith, list_any-insertion, has-filter, other_part)

pub has-without : (r : Resource) (conn : ConnId) (s : Resource) (other : ConnId) (interests : List Interest)
    → same_part (r, conn) (s, other) ≡ false
    → has_interest r conn (interests_without s other interests) ≡ has_interest r conn interests
has-without r conn s other interests out =
    let named : Part = (r, conn) in
    let gone : Part = (s, other) in
    has-filter r conn (λ x. not (is_of s other x)) (λ x h. ap not
    (subst (λ (p : Part). same_part p gone ≡ false) (sym (same_part-eq (part_of x) named h)) out)) interests

-- ---- changes that leave each interest with its resource and its connector

pub record KeepsPart (f : Interest → Interest) : Type 0 where
  pub r : (x : Interest) → (f x).held.r ≡ x.held.r
  pub conn : (x : Interest) → (f x).held.conn ≡ x.held.conn

or_same : (a b c d : Bool) → a ≡ b → c ≡ d → a || c ≡ b || d
or_same a b c d e f = rw (e, f) refl

pub has-map : (f : Interest → Interest) → KeepsPart f → (r : Resource) (conn : ConnId) (interests : List Interest)
    → has_interest r conn (map f interests) ≡ has_interest r conn interests
has-map f keeps r conn [] = refl
has-map f keeps r conn (x ∷ xs) = grind (arith, or_same, has-map f keeps r conn xs)

-- a relation that a map keeps between elements that pass a test
map_keeps : {X : Type 0} (relation : X → X → Bool) (f : X → X) (good : X → Bool)
    → ((x y : X) → good x ≡ true → good y ≡ true → relation x y ≡ true → relation (f x) (f y) ≡ true)
    → (xs : List X) → list_all good xs ≡ true → pairwise relation xs ≡ true → pairwise relation (map f xs) ≡ true
map_keeps relation f good h [] g p = refl
map_keeps relation f good h (x ∷ xs) g p =
    let goods = and_parts (good x) (list_all good xs) g in
    let parts = and_parts (list_all (relation x) xs) (pairwise relation xs) p in
    and_from (list_all (relation (f x)) (map f xs)) (pairwise relation (map f xs)) (list_all-map (relation (f x)) f xs
    ∙ list_all_weaker (λ y. good y && relation x y) (λ y. relation (f x) (f y)) (grind (arith, both, and_parts))
    xs (list_all_both good (relation x) xs goods.1 parts.0)) (map_keeps relation f good h xs goods.1 parts.1)

up_to_same : (a b c d : Resource) → a ≡ c → b ≡ d → resource_up_to a b ≡ resource_up_to c d
up_to_same a b c d e f = ap (λ (x : Resource). resource_up_to x b) e ∙ ap (λ (y : Resource). resource_up_to c y) f

pub interests-map : (f : Interest → Interest) → KeepsPart f → (good : Interest → Bool) → ((x y : Interest) → good x
    ≡ true → good y ≡ true → owners_agree x y ≡ true → owners_agree (f x) (f y) ≡ true) → (interests : List Interest)
    → list_all good interests ≡ true → AreInterests interests → AreInterests (map f interests)
interests-map f keeps good h interests g are = grind (arith, pairwise-map, up_to_same, map_keeps)

pub record KeepsState (f : Interest → Interest) : Type 0 where
  pub part : KeepsPart f
  pub excl : (x : Interest) → (f x).held.excl ≡ x.held.excl

pub state_same : (f : Interest → Interest)
    → KeepsState f → (x y : Interest) → owners_agree (f x) (f y) ≡ owners_agree x y
state_same f keeps x y = grind (arith, agree_sym)

pub interests-same : (f : Interest → Interest) → KeepsState f → (interests : List Interest) → AreInterests interests
    → AreInterests (map f interests)
interests-same f keeps interests are = interests-map f keeps.part (λ x. true) (λ x y g h e. state_same f keeps x y
    ∙ e) interests (list_all_always (λ x. true) (λ x. refl) interests) are

pub records-map : (f : Interest → Interest) → ((x : Interest) → records_of (f x).rec ≤ records_of x.rec)
    → (interests : List Interest) → records_owned (map f interests) ≤ records_owned interests
records-map f h [] = omega arith
records-map f h (x ∷ xs) = omega (
  arith,
  h x,
  records-map f h xs,
  sum_by-cons (λ (i : Interest). records_of i.rec) (f x) (map f xs),
  sum_by-cons (λ (i : Interest). records_of i.rec) x xs,
)
