-- The replies of a cache structure are read back.
use Rattle.std.proofs.Common.{◌≡◌, Bool, true, false, List, length, Option, None, Some, codes, refl, lit<}
use Rattle.cf_types.specs.declared.names.Name16.{Name16}
use Rattle.cf_types.specs.declared.numbers.ConnId.{ConnId}
use Rattle.cf_types.specs.declared.cache_commands.CacheReply.{CacheReply}
use Rattle.cf_types.specs.declared.cache_commands.CacheReply.TheVariants as cache
use Rattle.cf_types.specs.Term.{IsTerm}
use Rattle.plex_spell.specs.Words.{same_word}
use Rattle.plex_plain.specs.Ranges.{IsOneOf, AreNames}
use Rattle.line_rows.specs.Rows.{IsSingle, IsRow, done, led, counted, Both, IfGiven, AreCounted}
use Rattle.line_rows.specs.Singles.{a_name, IsAName, text}
use Rattle.line_rows.proofs.RowLaws.{◌or◌, done-is, led-is, and_then-is, optional-is, counted-is, first-forth, form-forth, done-avoids, front-avoids}
use Rattle.line_rows.proofs.SingleLaws.{text-is, name-is, joined-is, number-free}
use Rattle.reply_rows.specs.Parts.{small, a_change, a_holder}
use Rattle.reply_rows.specs.Within.{IsSmall, IsAny, IsCacheReply}
use Rattle.reply_rows.specs.Contents.{an_index, a_count, data_row, cast_row, dir_end, dir_changed, dir_unchanged, cache_words, cache_forms, cache_row}
use Rattle.reply_rows.proofs.PartLaws.{small-is, change-is, holder-is, plain-is, one-is, two-is, Nil}

no_adjunct : (b : Bool) → same_word (a_change.word b) (codes "ADJ") ≡ false
no_adjunct true = refl
no_adjunct false = refl

pub data-is : IsRow (Both (IsTerm 4096) (Both (IfGiven (IsTerm 64)) (Both IsAny Nil))) data_row
data-is = led-is _ (codes "DATA") refl _ (and_then-is (IsTerm 4096)
    _ (text 4096) _ (text-is 4096) (optional-is (IsTerm 64) _ (codes "ADJ") refl (text 64) _ (text-is 64)
    (and_then-is IsAny Nil a_change done change-is done-is) (front-avoids (codes "ADJ") a_change done no_adjunct)))

pub cast-is : IsRow (Both (IsTerm 4096) (Both (IfGiven (IsTerm 64)) Nil)) cast_row
cast-is = led-is _ (codes "DATA") refl _ (and_then-is (IsTerm 4096) _ (text 4096) _ (text-is 4096)
    (optional-is (IsTerm 64) Nil (codes "ADJ") refl (text 64) done (text-is 64) done-is (done-avoids (codes "ADJ"))))

index-is : IsSingle (Both IsSmall IsAName) an_index
index-is =
    joined-is IsSmall IsAName 58 small a_name refl small-is name-is (number-free 4294967295 58 (lit< tt) (lit< tt))

counts-is : IsSingle (Both IsSmall IsSmall) a_count
counts-is =
    joined-is IsSmall IsSmall 58 small small refl small-is small-is (number-free 4294967295 58 (lit< tt) (lit< tt))

module _ (connectors : List Name16) (names : AreNames connectors) where
  abbrev Holder : Option ConnId → Type 0
  Holder o = IfGiven (IsOneOf (length connectors)) o

  dir-end : IsRow (Both IsSmall (Both Holder (Both IsSmall Nil))) (dir_end connectors)
  dir-end = led-is _ (codes "STG") refl _ (and_then-is IsSmall _ small _ small-is
      (led-is _ (codes "LOCK") refl _ (and_then-is Holder _ (a_holder connectors) _ (holder-is connectors names)
      (led-is _ (codes "REGS") refl _ (and_then-is IsSmall Nil small done small-is done-is)))))

  dir-changed : IsRow (Both IsSmall (Both IsSmall (Both Holder (Both IsSmall Nil)))) (dir_changed connectors)
  dir-changed = led-is _ (codes "DIR")
      refl _ (led-is _ (codes "CHANGED") refl _ (and_then-is IsSmall _ small _ small-is dir-end))

  dir-unchanged : IsRow (Both IsSmall (Both Holder (Both IsSmall Nil))) (dir_unchanged connectors)
  dir-unchanged =
      led-is _ (codes "DIR") refl _ (led-is _ (codes "UNCHANGED") refl _ (led-is _ (codes "NONE") refl _ dir-end))

  pub cache-is : IsRow (IsCacheReply connectors) (cache_row connectors)
  cache-is = record {
    back = λ r h. back r h;
    forth = first-forth (IsCacheReply connectors) (cache_words connectors) (cache_forms connectors) (
        form-forth _ _ _ _ (λ v. cache.Data v.0 v.1.0 v.1.1.0) data-is (λ v h. (refl, h)) or form-forth
        _ _ _ _ (λ v. cache.NoData) (plain-is (codes "NODATA") refl) (λ v h. (refl, h)) or form-forth _ _ _ _
        (λ v. cache.Ok) (plain-is (codes "OK") refl) (λ v h. (refl, h)) or form-forth _ _ _ _ (λ v. cache.OkCount v.0)
        (one-is IsSmall (codes "OK") refl small small-is) (λ v h. (refl, h)) or form-forth _ _ _ _ (λ v. cache.Regs v)
        regs-is (λ v h. (refl, h)) or form-forth _ _ _ _ (λ v. cache.CastData v.0 v.1.0) cast-is (λ v h. (refl, h))
        or form-forth _ _ _ _ (λ v. cache.Unlocked v.0) (one-is IsAny (codes "OK") refl a_change change-is)
        (λ v h. (refl, h)) or form-forth _ _ _ _ (λ v. cache.Names v) names-is (λ v h. (refl, h))
        or form-forth _ _ _ _ (λ v. cache.Stats v) stats-is (λ v h. (refl, h)) or form-forth _ _ _ _ (λ v. cache.Dir
        (Some v.0) v.1.0 v.1.1.0 v.1.1.1.0) dir-changed (λ v h. (refl, h)) or form-forth _ _ _ _ (λ v. cache.Dir
        None v.0 v.1.0 v.1.1.0) dir-unchanged (λ v h. (refl, h)) or form-forth _ _ _ _ (λ v. cache.Stg v.0 v.1.0)
        (two-is IsSmall IsSmall (codes "STG") refl small small small-is small-is) (λ v h. (refl, h)) or tt);
  }
    where
      regs-is : IsRow (AreCounted (Both IsSmall IsAName)) (led (codes "REGS") (counted an_index))
      regs-is = led-is _ (codes "REGS") refl _ (counted-is (Both IsSmall IsAName) an_index index-is)

      names-is : IsRow (AreCounted IsAName) (led (codes "NAMES") (counted a_name))
      names-is = led-is _ (codes "NAMES") refl _ (counted-is IsAName a_name name-is)

      stats-is : IsRow (AreCounted (Both IsSmall IsSmall)) (led (codes "STATS") (counted a_count))
      stats-is = led-is _ (codes "STATS") refl _ (counted-is (Both IsSmall IsSmall) a_count counts-is)

      back : (r : CacheReply)
          → IsCacheReply connectors r → (cache_row connectors).values (cache_words connectors r) ≡ Some r
      back (cache.Data body adj changed) h = rw (data-is.back (body, (adj, (changed, tt))) h) refl
      back cache.NoData h = refl
      back cache.Ok h = refl
      back (cache.OkCount n) h = rw (small-is.back n h.0) refl
      back (cache.Regs regs) h = rw (regs-is.back regs h) refl
      back (cache.CastData body None) h = rw ((text-is 4096).back body h.0) refl
      back (cache.CastData body (Some adj)) h = rw ((text-is 4096).back body h.0, (text-is 64).back adj h.1.0) refl
      back (cache.Unlocked true) h = refl
      back (cache.Unlocked false) h = refl
      back (cache.Names xs) h = rw (names-is.back xs h) refl
      back (cache.Stats counts) h = rw (stats-is.back counts h) refl
      back (cache.Dir (Some class) stg holder regs) h =
          rw (dir-changed.back (class, (stg, (holder, (regs, tt)))) h) refl
      back (cache.Dir None stg holder regs) h = rw (dir-unchanged.back (stg, (holder, (regs, tt))) h) refl
      back (cache.Stg rows changed) h = rw (small-is.back rows h.0, small-is.back changed h.1.0) refl
