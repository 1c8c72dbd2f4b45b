-- The replies of a lock structure are read back.
use Rattle.std.proofs.Common.{◌≡◌, ℕ, Bool, List, codes, Some, refl}
use Rattle.cf_types.specs.declared.resources.Resource.{Resource}
use Rattle.cf_types.specs.declared.lock_commands.LockReply.{LockReply}
use Rattle.cf_types.specs.declared.lock_commands.LockReply.TheVariants as lock
use Rattle.cf_types.specs.Term.{IsTerm}
use Rattle.line_rows.specs.Rows.{IsSingle, IsRow, counted, Both, AreCounted}
use Rattle.line_rows.specs.Singles.{text, joined}
use Rattle.line_rows.proofs.RowLaws.{◌or◌, counted-is, led-is, first-forth, form-forth}
use Rattle.line_rows.proofs.SingleLaws.{text-is, joined-is, as_one-is, either-free}
use Rattle.reply_rows.specs.Parts.{small, a_resource, a_state}
use Rattle.reply_rows.specs.Within.{IsSmall, IsAResource, IsAny, IsHeld, IsLockReply}
use Rattle.reply_rows.specs.Contents.{a_held, records_row, lock_words, lock_forms, lock_row}
use Rattle.reply_rows.proofs.PartLaws.{small-is, resource-is, state-is, plain-is, one-is, resource-free}

pub held-is : IsSingle IsHeld a_held
held-is = as_one-is (Both IsAResource (Both IsAny (IsTerm 64))) (λ (h : Resource × Bool × List ℕ). (h.0, (h.1, h.2)))
    (λ (p : Resource × (Bool × List ℕ)). (let h : Resource × Bool × List ℕ = (p.0, p.1.0, p.1.1) in h))
    (joined 58 a_resource (joined 58 a_state (text 64))) (joined-is IsAResource (Both IsAny (IsTerm 64)) 58 a_resource
    (joined 58 a_state (text 64)) refl resource-is (joined-is IsAny (IsTerm 64) 58 a_state (text 64) refl state-is
    (text-is 64) (either-free (codes "EXCL") (codes "SHR") 58 refl refl)) resource-free) (λ p. refl) (λ h. refl)

records-is : IsRow (AreCounted IsHeld) records_row
records-is = led-is (AreCounted IsHeld) (codes "RECORDS") refl (counted a_held) (counted-is IsHeld a_held held-is)

pub lock-is : IsRow IsLockReply lock_row
lock-is = record {
  back = λ r h. back r h;
  forth = first-forth IsLockReply lock_words lock_forms (
      form-forth _ _ _ _ (λ v. lock.Granted) (plain-is (codes "GRANTED") refl) (λ v h. (refl, h))
      or form-forth _ _ _ _ (λ v. lock.Pending v.0) (one-is IsSmall (codes "PENDING") refl small small-is)
      (λ v h. (refl, h)) or form-forth _ _ _ _ (λ v. lock.Ok) (plain-is (codes "OK") refl)
      (λ v h. (refl, h)) or form-forth _ _ _ _ (λ v. lock.Records v) records-is (λ v h. (refl, h)) or tt);
}
  where
    back : (r : LockReply) → IsLockReply r → lock_row.values (lock_words r) ≡ Some r
    back lock.Granted h = refl
    back (lock.Pending place) h = rw ((one-is IsSmall (codes "PENDING") refl small small-is).back (place, tt) h) refl
    back lock.Ok h = refl
    back (lock.Records records) h = rw (records-is.back records h) refl
