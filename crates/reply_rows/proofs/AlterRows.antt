-- The replies of a cache structure, on its content and on its capacity, are read back.
use Rattle.std.proofs.Common.{◌≡◌, List, codes, Some, refl}
use Rattle.cf_types.specs.declared.names.Name16.{Name16}
use Rattle.cf_types.specs.declared.alter_commands.AlterReply.{AlterReply}
use Rattle.cf_types.specs.declared.alter_commands.AlterReply.TheVariants as alter
use Rattle.cf_types.specs.declared.cache_commands.CacheReply.{CacheReply}
use Rattle.plex_plain.specs.Ranges.{AreNames}
use Rattle.line_rows.specs.Rows.{IsRow, done, Both}
use Rattle.line_rows.proofs.RowLaws.{◌or◌, done-is, led-is, and_then-is, first-forth, form-forth}
use Rattle.reply_rows.specs.Answers.{answer_at, AreAnswers}
use Rattle.reply_rows.specs.Parts.{small, a_progress}
use Rattle.reply_rows.specs.Within.{IsSmall, IsAny, IsAlterReply}
use Rattle.reply_rows.specs.Contents.{altered_row, altered, alter_words, alter_forms, alter_side, alter_answers}
use Rattle.reply_rows.proofs.PartLaws.{small-is, progress-is, plain-is, Nil}
use Rattle.reply_rows.proofs.CacheRows.{cache-is}

altered-is : IsRow (Both IsSmall (Both IsSmall (Both IsAny Nil))) altered_row
altered-is = led-is _ (codes "ALTERED") refl _ (and_then-is IsSmall _ small _ small-is
    (and_then-is IsSmall _ small _ small-is (and_then-is IsAny Nil a_progress done progress-is done-is)))

module _ (connectors : List Name16) (names : AreNames connectors) where
  pub alter-are : AreAnswers (IsAlterReply connectors) (alter_answers connectors)
  alter-are = record {
    content = form-forth (IsAlterReply connectors)
        (alter_words connectors) _ _ (λ v. alter.Inner v) (cache-is connectors names) (λ v h. (refl, h));
    around = first-forth (IsAlterReply connectors) (alter_words connectors) alter_forms (
        form-forth _ _ _ _ (λ v. alter.Ok) (plain-is (codes "OK") refl) (λ v h. (refl, h))
        or form-forth _ _ _ _ altered altered-is (λ v h. (refl, h)) or tt);
    own = λ r h. own r h;
  }
    where
      own : (r : AlterReply CacheReply) → IsAlterReply connectors r
          → answer_at (alter_answers connectors) (alter_side r) (alter_words connectors r) ≡ Some r
      own (alter.Inner answer) h = rw ((cache-is connectors names).back answer h) refl
      own alter.Ok h = refl
      own (alter.Altered caps done) h = rw (altered-is.back (caps.entries, (caps.elements, (done, tt))) h) refl
