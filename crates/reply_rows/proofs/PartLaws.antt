-- The words and rows that replies share are read back.
use Rattle.std.proofs.Common.{◌≡◌, ℕ, ◌==◌, ◌≤◌, true, not, List, length, Option, None, Some, codes, refl, subst, arith, lit<}
use Rattle.std.proofs.lemmas.Bool.Decides.{nat_tests}
use Rattle.cf_types.specs.declared.names.Name16.{Name16}
use Rattle.cf_types.specs.declared.numbers.ConnId.{ConnId}
use Rattle.cf_types.specs.declared.numbers.EntryId.{EntryId}
use Rattle.cf_types.specs.declared.resources.Resource.{Resource}
use Rattle.cf_types.specs.Forms.{IsFacility}
use Rattle.cf_types.specs.Term.{term_byte}
use Rattle.plex_spell.specs.Tokens.{is_name, connector_of}
use Rattle.plex_plain.specs.Ranges.{IsOneOf, AreNames}
use Rattle.plex_plain.proofs.Said.{connector-said}
use Rattle.line_rows.specs.Rows.{is_word, Single, IsSingle, IsRow, done, and_then, Both, IfGiven}
use Rattle.line_rows.specs.Singles.{number, IsAName, a_name, a_facility, a_connector, marked, joined}
use Rattle.line_rows.proofs.RowLaws.{done-is, led-is, and_then-is}
use Rattle.line_rows.proofs.SingleLaws.{IsFree, number-is, name-is, facility-is, connector-is, marked-is, either-is, or_word-is, joined-is, as_one-is, number-free, name-free, joined-free}
use Rattle.reply_rows.specs.Parts.{small, an_id, a_resource, a_state, a_change, a_progress, a_holder, plain, with_one, with_two}
use Rattle.reply_rows.specs.Within.{IsSmall, IsAnId, IsAResource, IsAny}

pub small-is : IsSingle IsSmall small
small-is = number-is 4294967295 (lit< tt)

pub id-is : IsSingle IsAnId an_id
id-is = as_one-is IsAnNumber (λ (id : EntryId). id.0) (λ n. (let id : EntryId = record { 0 = n } in id))
    (marked 35 (number 18446744073709551615)) (marked-is IsAnNumber
    35 (number 18446744073709551615) refl (number-is 18446744073709551615 (lit< tt))) (λ n. refl) (λ id. refl)
  where
    IsAnNumber : ℕ → Type 0
    IsAnNumber n = n ≤ 18446744073709551615

no_at : (b : ℕ) → term_byte b ≡ true → not (b == 64) ≡ true
no_at b h = grind (arith, nat_tests)

pub resource-is : IsSingle IsAResource a_resource
resource-is = as_one-is (Both IsAName IsSmall) (λ (r : Resource). (r.name, r.hash))
    (λ (p : Name16 × ℕ). (let r : Resource = record { name = p.0; hash = p.1 } in r)) (joined 64 a_name small)
    (joined-is IsAName IsSmall 64 a_name small refl name-is small-is (name-free 64 no_at)) (λ p. refl) (λ r. refl)

pub state-is : IsSingle IsAny a_state
state-is = either-is (codes "EXCL") (codes "SHR") refl refl refl

pub change-is : IsSingle IsAny a_change
change-is = either-is (codes "CHANGED") (codes "UNCHANGED") refl refl refl

pub progress-is : IsSingle IsAny a_progress
progress-is = either-is (codes "DONE") (codes "MORE") refl refl refl

-- ---- rows

pub plain-is : (word : List ℕ) → is_word word ≡ true → IsRow (λ v. Unit {0}) (plain word)
plain-is word good = led-is (λ v. Unit {0}) word good done done-is

pub one-is : {A : Type 0} (P : A → Type 0) (word : List ℕ) → is_word word ≡ true
    → (one : Single A) → IsSingle P one → IsRow (Both P (λ v. Unit {0})) (with_one word one)
one-is P word good one is =
    led-is (Both P (λ v. Unit {0})) word good (and_then one done) (and_then-is P (λ v. Unit {0}) one done is done-is)

pub two-is : {A B : Type 0} (P : A → Type 0) (Q : B → Type 0) (word : List ℕ) → is_word word ≡ true
    → (one : Single A) (other : Single B)
    → IsSingle P one → IsSingle Q other → IsRow (Both P (Both Q (λ v. Unit {0}))) (with_two word one other)
two-is P Q word good one other is also =
    led-is (Both P (Both Q (λ v. Unit {0}))) word good (and_then one (and_then other done)) (and_then-is
    P (Both Q (λ v. Unit {0})) one (and_then other done) is (and_then-is Q (λ v. Unit {0}) other done also done-is))

no_colon : (b : ℕ) → term_byte b ≡ true → not (b == 58) ≡ true
no_colon b h = grind (arith, nat_tests)

pub resource-free : IsFree IsAResource 58 a_resource
resource-free r h = joined-free IsAName IsSmall 58 64 a_name
    small refl (name-free 58 no_colon) (number-free 4294967295 58 (lit< tt) (lit< tt)) (r.name, r.hash) h

no_none : (connectors : List Name16)
    → AreNames connectors → (o : Option ConnId) → connector_of connectors (codes "NONE") ≡ o → o ≡ None
no_none connectors names None e = refl
no_none connectors names (Some conn) e =
    let f = (connector-is connectors names).forth (codes "NONE") conn e in
    let named = (connector-said connectors conn names f.1.0 f.1.1).0.0 in
    let clash : is_name (codes "NONE") ≡ true = subst (λ (w : List ℕ). is_name w ≡ true) f.0 named in
    absurd (cc)

pub holder-is : (connectors : List Name16)
    → AreNames connectors → IsSingle (IfGiven (IsOneOf (length connectors))) (a_holder connectors)
holder-is connectors names = or_word-is (IsOneOf (length connectors)) (codes "NONE") refl (a_connector connectors)
    (connector-is connectors names) (no_none connectors names (connector_of connectors (codes "NONE")) refl)

abbrev pub Nil : Unit {0} → Type 0
Nil v = Unit {0}

-- a word with a number, with two, and with a facility
pub count-is : (word : List ℕ) → is_word word ≡ true → IsRow (Both IsSmall Nil) (with_one word small)
count-is word good = one-is IsSmall word good small small-is

pub pair-is : (word : List ℕ)
    → is_word word ≡ true → IsRow (Both IsSmall (Both IsSmall Nil)) (with_two word small small)
pair-is word good = two-is IsSmall IsSmall word good small small small-is small-is

pub at-is : (word : List ℕ) → is_word word ≡ true → IsRow (Both IsFacility Nil) (with_one word a_facility)
at-is word good = one-is IsFacility word good a_facility facility-is
