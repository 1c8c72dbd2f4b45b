-- The laws of an engine whose capacity can be altered, from those of the engine inside.
use Rattle.std.proofs.Common.{◌≡◌, ℕ, ◌+◌, ◌-◌, ◌≤◌, ◌<◌, Bool, true, false, ◌&&◌, cond, nat_lt, nat_le, IsTrue, List, [], ◌∷◌, ◌++◌, Option, None, Some, refl, sym, ap, ◌∙◌, subst, arith}
use Rattle.std.specs.Prelude.{fold}
use Rattle.std.proofs.lemmas.Bool.{false≢true, and_parts}
use Rattle.std.proofs.lemmas.Bool.Decides.{nat_tests}
use Rattle.cf_types.specs.declared.forms.Caps.{Caps}
use Rattle.cf_types.specs.declared.forms.Kind.{Kind}
use Rattle.cf_types.specs.declared.forms.Kind.TheVariants as kind
use Rattle.cf_types.specs.declared.numbers.ConnId.{ConnId}
use Rattle.cf_types.specs.declared.refusals.Refusal.{Refusal}
use Rattle.engine_api.specs.declared.shapes.Shape.{Shape}
use Rattle.engine_api.specs.Instances.{units_of}
use Rattle.engine_api.specs.Items.{Fits, IsAlone, IsNextItem, content_of_items}
use Rattle.engine_api.specs.Meaning.{Meaning, first_refusal}
use Rattle.engine_api.specs.Shell.{refusal_when, if_small, if_too_small}
use Rattle.cf_types.specs.declared.alter_commands.AlterCmd.{AlterCmd}
use Rattle.cf_types.specs.declared.alter_commands.AlterCmd.TheVariants as alter
use Rattle.alter_model.specs.declared.contents.AlterContent.{AlterContent}
use Rattle.alter_model.specs.Meaning.{caps_or, toward, caps_toward, is_same, IsWithin, if_beyond, step_cause, step_done, target_at, IsAltered, alters, alter_cause, alter_done, alter_meaning, unaltered, need_of}

-- ---- refusals that don't hold

not_when : (b : Bool) (refusal : Refusal) → refusal_when b refusal ≡ None → b ≡ false
not_when true refusal e = absurd cc
not_when false refusal e = refl

not_below : (a b : ℕ) → nat_lt a b ≡ false → b ≤ a
not_below a b e = grind (arith, nat_tests)

not_small : (need have : ℕ) → if_small need have ≡ None → need ≤ have
not_small need have e = not_below have need (not_when _ _ e)

head_none : (first : Option Refusal) (others : List (Option Refusal)) → first_refusal (first ∷ others) ≡ None
    → (first ≡ None) × (first_refusal others ≡ None)
head_none None others e = (refl, e)
head_none (Some refusal) others e = absurd cc

-- a capacity that isn't too small
pub fits_unless : (of : Kind) (need caps : Caps) → first_refusal (if_too_small of need caps) ≡ None
    → Fits of need caps
fits_unless kind.Cache need caps e =
    let entries = head_none (if_small need.entries caps.entries) (if_small need.elements caps.elements ∷ []) e in
    let elements = head_none (if_small need.elements caps.elements) [] entries.1 in
    (not_small _ _ entries.0, not_small _ _ elements.0)
fits_unless (kind.List headers locks refs) need caps e =
    let entries = head_none (if_small need.entries caps.entries) (if_small need.elements caps.elements ∷ []) e in
    let elements = head_none (if_small need.elements caps.elements) [] entries.1 in
    (not_small _ _ entries.0, not_small _ _ elements.0)
fits_unless kind.Lock need caps e =
    let elements = head_none (if_small need.elements caps.elements) [] e in not_small _ _ elements.0

-- ---- on the way to a target

-- a number on its way: it is there, or n nearer, from below or from above
data Way (n from to at : ℕ) : Type 0 where
  There : at ≡ to → to ≤ from + n → from ≤ to + n → Way n from to at
  Up : at ≡ from + n → from + n < to → Way n from to at
  Down : at + n ≡ from → to + n < from → Way n from to at

first_false : (a b : Bool) → a && b ≡ false → b ≡ true → a ≡ false
first_false true true e is = absurd (false≢true (sym e))
first_false false true e is = refl
first_false true false e is = absurd (false≢true is)
first_false false false e is = refl

second_false : (a b : Bool) → a && b ≡ false → a ≡ true → b ≡ false
second_false true b e is = e
second_false false b e is = absurd (false≢true is)

near_le : (x n : ℕ) → x ≤ n → nat_le x n ≡ true
near_le x n le = grind (arith, nat_tests)

past_of : (x n : ℕ) → nat_le x n ≡ false → n < x
past_of x n e = grind (arith, nat_tests)

within_of : (x n : ℕ) → nat_le x n ≡ true → x ≤ n
within_of x n e = grind (arith, nat_tests)

far_up : (n from to : ℕ) → nat_le (to - from) n && nat_le (from - to) n ≡ false → from < to → from + n < to
far_up n from to far up =
    let e = first_false (nat_le (to - from) n) (nat_le (from - to) n) far
    (near_le (from - to) n (omega (arith, up))) in
    let past : n < to - from = past_of (to - from) n e in
    omega (arith, past, up)

far_down : (n from to : ℕ) → nat_le (to - from) n && nat_le (from - to) n ≡ false → to ≤ from → to + n < from
far_down n from to far down =
    let e = second_false (nat_le (to - from) n) (nat_le (from - to) n) far
    (near_le (to - from) n (omega (arith, down))) in
    let past : n < from - to = past_of (from - to) n e in
    omega (arith, past, down)

less_of : (a b : ℕ) → nat_lt a b ≡ true → a < b
less_of a b e = grind (arith, nat_tests)

way_to : (n from to : ℕ) → Way n from to (toward n from to)
way_to n from to = go (nat_le (to - from) n && nat_le (from - to) n) (nat_lt from to) refl refl
  where
    go : (near up : Bool) → nat_le (to - from) n && nat_le (from - to) n ≡ near → nat_lt from to ≡ up
        → Way n from to (cond near to (cond up (from + n) (from - n)))
    go true up is rises =
        let both = and_parts (nat_le (to - from) n) (nat_le (from - to) n) is in
        let one = within_of (to - from) n both.0 in
        let two = within_of (from - to) n both.1 in
        There refl (omega (arith, one)) (omega (arith, two))
    go false true is rises = Up refl (far_up n from to is (less_of from to rises))
    go false false is rises =
        let far = far_down n from to is (not_below from to rises) in
        Down (omega (arith, far)) far

sum_of_ways : (n a b x y c d units : ℕ) → a + b ≤ units → x + y ≤ units → Way n a x c → Way n b y d → c + d ≤ units
sum_of_ways n a b x y c d units from to (There at le ge) (There at' le' ge') = omega (arith, at, at', to)
sum_of_ways n a b x y c d units from to (There at le ge) (Up at' far) = omega (arith, at, at', far, to)
sum_of_ways n a b x y c d units from to (There at le ge) (Down at' far) = omega (arith, at, at', far, le, from)
sum_of_ways n a b x y c d units from to (Up at far) (There at' le ge) = omega (arith, at, at', far, to)
sum_of_ways n a b x y c d units from to (Up at far) (Up at' far') = omega (arith, at, at', far, far', to)
sum_of_ways n a b x y c d units from to (Up at far) (Down at' far') = omega (arith, at, at', far, far', from)
sum_of_ways n a b x y c d units from to (Down at far) (There at' le ge) = omega (arith, at, at', far, le, from)
sum_of_ways n a b x y c d units from to (Down at far) (Up at' far') = omega (arith, at, at', far, far', from)
sum_of_ways n a b x y c d units from to (Down at far) (Down at' far') = omega (arith, at, at', far, far', from)

pub toward_within : (n : ℕ) (from to : Caps) (units : ℕ) → units_of from ≤ units → units_of to ≤ units
    → units_of (caps_toward n from to) ≤ units
toward_within n from to units before after =
    sum_of_ways n from.entries from.elements to.entries to.elements (toward n from.entries to.entries)
    (toward n from.elements to.elements) units before after (way_to n from.entries to.entries)
    (way_to n from.elements to.elements)

within_or : (limits : Option Caps) (caps : Caps) → IsWithin (units_of caps) limits
    → units_of (caps_or limits caps) ≤ units_of caps
within_or None caps is = omega arith
within_or (Some limits) caps is = is

within_target : (limits target : Caps) (units : ℕ) (b : Bool) → units_of target ≤ units
    → IsWithin units (cond b None (Some target))
within_target limits target units true is = tt
within_target limits target units false is = is

-- ---- what an alteration leaves as it was

module _ {C R I S : Type 0} (meaning : Meaning C R I S) where
  stepped_inner : (caps : Caps) (n : ℕ) (content : AlterContent S) (target : Option Caps)
      → (step_done {R = R} caps n content target).state.inner ≡ content.inner
  stepped_inner caps n content None = refl
  stepped_inner caps n content (Some target) = refl

  stepped_letters : (caps : Caps) (n : ℕ) (content : AlterContent S) (target : Option Caps)
      → (step_done {R = R} caps n content target).letters ≡ []
  stepped_letters caps n content None = refl
  stepped_letters caps n content (Some target) = refl

  pub kept-inner : (shape : Shape) (caps : Caps) (content : AlterContent S) (by : ConnId) (cmd : AlterCmd C)
      → alters cmd ≡ true → (alter_done meaning shape caps content by cmd).state.inner ≡ content.inner
  kept-inner shape caps content by (alter.Inner cmd) is = absurd (false≢true is)
  kept-inner shape caps content by (alter.Start target) is = refl
  kept-inner shape caps content by (alter.Step n) is = stepped_inner caps n content content.target
  kept-inner shape caps content by alter.Stop is = refl

  pub kept-bits : (shape : Shape) (caps : Caps) (content : AlterContent S) (by : ConnId) (cmd : AlterCmd C)
      (conn : ConnId) (index : ℕ) → alters cmd ≡ true
      → (alter_meaning meaning).stands (alter_done meaning shape caps content by cmd).state conn index
      ≡ (alter_meaning meaning).stands content conn index
  kept-bits shape caps content by cmd conn index is =
      ap (λ (state : S). meaning.stands state conn index) (kept-inner shape caps content by cmd is)

  pub no-letters : (shape : Shape) (caps : Caps) (content : AlterContent S) (by : ConnId) (cmd : AlterCmd C)
      → alters cmd ≡ true → (alter_done meaning shape caps content by cmd).letters ≡ []
  no-letters shape caps content by (alter.Inner cmd) is = absurd (false≢true is)
  no-letters shape caps content by (alter.Start target) is = refl
  no-letters shape caps content by (alter.Step n) is = stepped_letters caps n content content.target
  no-letters shape caps content by alter.Stop is = refl

module _ {C R I S : Type 0} (meaning : Meaning C R I S) (is_kind : Kind → Bool)
    (IsContent : Shape → Caps → S → Type 0) where
  abbrev Altered : Shape → Caps → AlterContent S → Type 0
  Altered = IsAltered IsContent

  -- ---- commands

  -- what a change of the inner content alone keeps
  pub inner-altered : (shape : Shape) (caps : Caps) (content : AlterContent S) (state : S) → Altered shape caps content
      → IsContent shape (caps_or content.limits caps) state → Altered shape caps (record content { inner = state })
  inner-altered shape caps content state is inner =
      record { inner = inner; limits = is.limits; target = is.target }

  abbrev ContentAt : Type 0
  ContentAt = (shape : Shape) (caps other : Caps) (state : S) → IsTrue (is_kind shape.kind)
      → IsContent shape caps state → Fits shape.kind (meaning.need (meaning.items shape state)) other
      → IsContent shape other state

  abbrev ContentDone : Type 0
  ContentDone = (shape : Shape) (caps : Caps) (state : S) (by : ConnId) (cmd : C) → IsTrue (is_kind shape.kind)
      → IsContent shape caps state → meaning.cause shape caps state by cmd ≡ None
      → IsContent shape caps (meaning.done shape caps state by cmd).state

  stepped : ContentAt → (shape : Shape) (caps : Caps) (content : AlterContent S) (n : ℕ) (target : Option Caps)
      → IsTrue (is_kind shape.kind) → Altered shape caps content → IsWithin (units_of caps) target
      → step_cause shape.kind (need_of meaning shape content) (caps_or content.limits caps) n target ≡ None
      → Altered shape caps (step_done {R = R} caps n content target).state
  stepped at shape caps content n None kind is within none = absurd cc
  stepped at shape caps content n (Some target) kind is within none =
      let limits : Caps = caps_toward n (caps_or content.limits caps) target in
      record {
        inner = at shape (caps_or content.limits caps) limits content.inner kind is.inner
            (fits_unless shape.kind (need_of meaning shape content) limits none);
        limits = toward_within n (caps_or content.limits caps) target (units_of caps)
            (within_or content.limits caps is.limits) within;
        target = within_target limits target (units_of caps) (is_same limits target) within;
      }

  pub altered-done : ContentDone → ContentAt → (shape : Shape) (caps : Caps) (content : AlterContent S) (by : ConnId)
      (cmd : AlterCmd C) → IsTrue (is_kind shape.kind) → Altered shape caps content
      → alter_cause meaning shape caps content by cmd ≡ None
      → Altered shape caps (alter_done meaning shape caps content by cmd).state
  altered-done does at shape caps content by (alter.Inner cmd) kind is none =
      inner-altered shape caps content _ is
      (does shape (caps_or content.limits caps) content.inner by cmd kind is.inner none)
  altered-done does at shape caps content by (alter.Start target) kind is none =
      let beyond = head_none (if_beyond (units_of target) (units_of caps))
      (if_too_small shape.kind (need_of meaning shape content) target) none in
      record {
        inner = is.inner;
        limits = is.limits;
        target = not_below (units_of caps) (units_of target) (not_when _ _ beyond.0);
      }
  altered-done does at shape caps content by (alter.Step n) kind is none =
      stepped at shape caps content n content.target kind is is.target none
  altered-done does at shape caps content by alter.Stop kind is none =
      record { inner = is.inner; limits = is.limits; target = tt }

  -- ---- items

  made_from : (shape : Shape) (state : S) (items : List I)
      → fold ((alter_meaning meaning).place shape) (unaltered meaning state) items
      ≡ unaltered meaning (fold (meaning.place shape) state items)
  made_from shape state [] = refl
  made_from shape state (item ∷ items) = made_from shape (meaning.place shape state item) items

  -- items make a content that isn't altered
  pub made-unaltered : (shape : Shape) (items : List I)
      → content_of_items (alter_meaning meaning) shape items
      ≡ unaltered meaning (content_of_items meaning shape items)
  made-unaltered shape items = made_from shape (meaning.empty shape) items

  pub altered-front : (shape : Shape) (other : Caps) (front : List I)
      → IsContent shape other (content_of_items meaning shape front)
      → Altered shape other (content_of_items (alter_meaning meaning) shape front)
  altered-front shape other front is =
      subst (Altered shape other) (sym (made-unaltered shape front))
      (record { inner = is; limits = tt; target = tt })

  pub items-unaltered : (shape : Shape) (front : List I)
      → meaning.items shape (content_of_items meaning shape front) ≡ front
      → meaning.items shape (content_of_items (alter_meaning meaning) shape front).inner ≡ front
  items-unaltered shape front is =
      ap (λ (c : AlterContent S). meaning.items shape c.inner) (made-unaltered shape front) ∙ is

  pub unplace-unaltered : (shape : Shape) (front more : List I)
      → meaning.unplace shape (content_of_items meaning shape more) ≡ content_of_items meaning shape front
      → (alter_meaning meaning).unplace shape (content_of_items (alter_meaning meaning) shape more)
      ≡ content_of_items (alter_meaning meaning) shape front
  unplace-unaltered shape front more is =
      ap ((alter_meaning meaning).unplace shape) (made-unaltered shape more)
      ∙ ap (unaltered meaning) is ∙ sym (made-unaltered shape front)

  pub altered-empty : (shape : Shape) (caps : Caps) (state : S) → IsContent shape caps state
      → Altered shape caps (unaltered meaning state)
  altered-empty shape caps state is = record { inner = is; limits = tt; target = tt }

  pub made-again : (shape : Shape) (content : AlterContent S)
      → content_of_items meaning shape (meaning.items shape content.inner) ≡ meaning.forget content.inner
      → content_of_items (alter_meaning meaning) shape (meaning.items shape content.inner)
      ≡ unaltered meaning (meaning.forget content.inner)
  made-again shape content is =
      made-unaltered shape (meaning.items shape content.inner) ∙ ap (unaltered meaning) is

  -- ---- a content that has just its items has no limits, nor has the one inside anything else

  pub alone-limits : (shape : Shape) (content : AlterContent S) → IsAlone (alter_meaning meaning) shape content
      → content.limits ≡ None
  alone-limits shape content is =
      ap (λ (c : AlterContent S). c.limits) (sym is ∙ made-unaltered shape (meaning.items shape content.inner))

  pub alone-inner : (shape : Shape) (content : AlterContent S) → IsAlone (alter_meaning meaning) shape content
      → IsAlone meaning shape content.inner
  alone-inner shape content is =
      ap (λ (c : AlterContent S). c.inner)
      (sym (made-unaltered shape (meaning.items shape content.inner)) ∙ is)

  pub next-inner : (shape : Shape) (content : AlterContent S) (item : I)
      → IsNextItem (alter_meaning meaning) Altered shape content item → IsNextItem meaning IsContent shape content.inner item
  next-inner shape content item next =
      record {
        at = caps_or next.whole.limits next.at;
        whole = next.whole.inner;
        others = next.others;
        content = next.content.inner;
        first = next.first;
        alone = alone-inner shape content next.alone;
      }

-- what holds of each command
pub alter-cases : {C : Type 0} (P : AlterCmd C → Type 0) → ((cmd : C) → P (alter.Inner cmd))
    → ((target : Caps) → P (alter.Start target)) → ((n : ℕ) → P (alter.Step n)) → P alter.Stop
    → (cmd : AlterCmd C) → P cmd
alter-cases P inner start step stop (alter.Inner cmd) = inner cmd
alter-cases P inner start step stop (alter.Start target) = start target
alter-cases P inner start step stop (alter.Step n) = step n
alter-cases P inner start step stop alter.Stop = stop
