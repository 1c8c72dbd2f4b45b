-- The replies of a list structure are read back.
use Rattle.std.proofs.Common.{◌≡◌, ℕ, false, List, length, Option, Some, codes, refl}
use Rattle.cf_types.specs.declared.names.Name16.{Name16}
use Rattle.cf_types.specs.declared.numbers.ConnId.{ConnId}
use Rattle.cf_types.specs.declared.list_commands.ListReply.{ListReply}
use Rattle.cf_types.specs.declared.list_commands.ListReply.TheVariants as list
use Rattle.cf_types.specs.Term.{IsTerm}
use Rattle.plex_spell.specs.Words.{same_word}
use Rattle.plex_plain.specs.Ranges.{IsOneOf, AreNames}
use Rattle.line_rows.specs.Rows.{Row, IsRow, done, led, optional, counted, Both, IfGiven, AreCounted}
use Rattle.line_rows.specs.Singles.{a_name, IsAName, a_key, IsAKey, text}
use Rattle.line_rows.proofs.RowLaws.{◌or◌, done-is, led-is, and_then-is, optional-is, counted-is, first-forth, form-forth, Avoids, done-avoids, optional-avoids}
use Rattle.line_rows.proofs.SingleLaws.{text-is, name-is, key-is}
use Rattle.reply_rows.specs.Parts.{small, an_id, a_holder, with_one}
use Rattle.reply_rows.specs.Within.{IsSmall, IsAnId, IsListReply}
use Rattle.reply_rows.specs.Contents.{entry_end, entry_row, list_words, list_forms, list_row}
use Rattle.reply_rows.proofs.PartLaws.{small-is, id-is, holder-is, plain-is, one-is, two-is, Nil}

abbrev adj_end : Row (Option (List ℕ) × Unit {0})
adj_end = optional (codes "ADJ") (text 64) done

abbrev data_end : Row (Option (List ℕ) × (Option (List ℕ) × Unit {0}))
data_end = optional (codes "DATA") (text 4096) adj_end

behind_key : (word : List ℕ) → same_word (codes "DATA") word ≡ false
    → same_word (codes "ADJ") word ≡ false → Avoids word data_end
behind_key word other_data other_adj = optional-avoids word (codes "DATA") (text 4096) adj_end
    other_data (optional-avoids word (codes "ADJ") (text 64) done other_adj (done-avoids word))

pub entry_end-is : IsRow (Both (IfGiven IsAName)
    (Both (IfGiven IsAKey) (Both (IfGiven (IsTerm 4096)) (Both (IfGiven (IsTerm 64)) Nil)))) entry_end
entry_end-is = optional-is IsAName _ (codes "NAME") refl a_name _ name-is (optional-is IsAKey
    _ (codes "KEY") refl a_key _ key-is (optional-is (IsTerm 4096) _ (codes "DATA") refl (text 4096) _ (text-is 4096)
    (optional-is (IsTerm 64) Nil (codes "ADJ") refl (text 64) done (text-is 64) done-is (done-avoids (codes "ADJ")))
    (optional-avoids (codes "DATA") (codes "ADJ") (text 64) done refl (done-avoids (codes "DATA"))))
    (behind_key (codes "KEY") refl refl))
    (optional-avoids (codes "NAME") (codes "KEY") a_key data_end refl (behind_key (codes "NAME") refl refl))

pub entry-is : IsRow (Both IsAnId (Both IsSmall (Both IsSmall (Both (IfGiven IsAName)
    (Both (IfGiven IsAKey) (Both (IfGiven (IsTerm 4096)) (Both (IfGiven (IsTerm 64)) Nil))))))) entry_row
entry-is = led-is _ (codes "ENTRY") refl _ (and_then-is IsAnId _ an_id _ id-is (and_then-is IsSmall
    _ small _ small-is (led-is _ (codes "VERSION") refl _ (and_then-is IsSmall _ small _ small-is entry_end-is))))

module _ (connectors : List Name16) (names : AreNames connectors) where
  abbrev Holder : Option ConnId → Type 0
  Holder o = IfGiven (IsOneOf (length connectors)) o

  ids-is : IsRow (AreCounted IsAnId) (led (codes "IDS") (counted an_id))
  ids-is = led-is _ (codes "IDS") refl _ (counted-is IsAnId an_id id-is)

  held-is : IsRow (Both Holder Nil) (with_one (codes "HOLDER") (a_holder connectors))
  held-is = one-is Holder (codes "HOLDER") refl (a_holder connectors) (holder-is connectors names)

  pub list-is : IsRow (IsListReply connectors) (list_row connectors)
  list-is = record {
    back = λ r h. back r h;
    forth = first-forth (IsListReply connectors) (list_words connectors) (list_forms connectors) (
        form-forth _ _ _ _ (λ v. list.Id v.0) (one-is IsAnId (codes "ID") refl an_id id-is) (λ v h. (refl, h))
        or form-forth _ _ _ _ (λ v. list.Entry v.0 v.1.0 v.1.1.0 v.1.1.1.0 v.1.1.1.1.0 v.1.1.1.1.1.0 v.1.1.1.1.1.1.0)
        entry-is (λ v h. (refl, h)) or form-forth _ _ _ _ (λ v. list.Ok) (plain-is (codes "OK") refl)
        (λ v h. (refl, h)) or form-forth _ _ _ _ (λ v. list.Ids v) ids-is (λ v h. (refl, h))
        or form-forth _ _ _ _ (λ v. list.Holder v.0) held-is (λ v h. (refl, h)) or form-forth _ _ _ _
        (λ v. list.Controls v.0 v.1.0) (two-is IsSmall IsSmall (codes "CONTROLS") refl small small small-is small-is)
        (λ v h. (refl, h)) or form-forth _ _ _ _ (λ v. list.Empty) (plain-is (codes "EMPTY") refl) (λ v h. (refl, h))
        or form-forth _ _ _ _ (λ v. list.NotEmpty) (plain-is (codes "NOTEMPTY") refl) (λ v h. (refl, h)) or form-forth
        _ _ _ _ (λ v. list.OkCount v.0) (one-is IsSmall (codes "OK") refl small small-is) (λ v h. (refl, h)) or tt);
  }
    where
      back : (r : ListReply)
          → IsListReply connectors r → (list_row connectors).values (list_words connectors r) ≡ Some r
      back (list.Id id) h = rw (id-is.back id h.0) refl
      back (list.Entry id header version name key body adj) h =
          rw (entry-is.back (id, (header, (version, (name, (key, (body, (adj, tt))))))) h) refl
      back list.Ok h = refl
      back (list.Ids ids) h = rw (ids-is.back ids h) refl
      back (list.Holder holder) h = rw (held-is.back (holder, tt) h) refl
      back (list.Controls count limit) h = rw (small-is.back count h.0, small-is.back limit h.1.0) refl
      back list.Empty h = refl
      back list.NotEmpty h = refl
      back (list.OkCount n) h = rw (small-is.back n h.0) refl
