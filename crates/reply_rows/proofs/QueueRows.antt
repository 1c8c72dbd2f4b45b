-- The replies of a list structure, on records and on event queues, are read back.
use Rattle.std.proofs.Common.{◌≡◌, List, codes, Some, refl}
use Rattle.cf_types.specs.declared.names.Name16.{Name16}
use Rattle.cf_types.specs.declared.list_commands.QueueReply.{QueueReply}
use Rattle.cf_types.specs.declared.list_commands.QueueReply.TheVariants as queue
use Rattle.plex_plain.specs.Ranges.{AreNames}
use Rattle.line_rows.specs.Singles.{a_key, IsAKey}
use Rattle.line_rows.proofs.RowLaws.{◌or◌, first-forth, form-forth}
use Rattle.line_rows.proofs.SingleLaws.{key-is}
use Rattle.reply_rows.specs.Answers.{answer_at, AreAnswers}
use Rattle.reply_rows.specs.Parts.{small}
use Rattle.reply_rows.specs.Within.{IsSmall, IsQueueReply}
use Rattle.reply_rows.specs.Contents.{queue_words, queue_forms, queue_side, queue_answers}
use Rattle.reply_rows.proofs.PartLaws.{small-is, plain-is, count-is, two-is}
use Rattle.reply_rows.proofs.ListRows.{list-is}

module _ (connectors : List Name16) (names : AreNames connectors) where
  pub queue-are : AreAnswers (IsQueueReply connectors) (queue_answers connectors)
  queue-are = record {
    content = form-forth (IsQueueReply connectors)
        (queue_words connectors) _ _ (λ v. queue.List v) (list-is connectors names) (λ v h. (refl, h));
    around = first-forth (IsQueueReply connectors) (queue_words connectors) queue_forms (
        form-forth _ _ _ _ (λ v. queue.Empty) (plain-is (codes "EMPTY") refl) (λ v h. (refl, h))
        or form-forth _ _ _ _ (λ v. queue.NotEmpty) (plain-is (codes "NOTEMPTY") refl) (λ v h. (refl, h))
        or form-forth _ _ _ _ (λ v. queue.Ok v.0) (count-is (codes "OK") refl) (λ v h. (refl, h))
        or form-forth _ _ _ _ (λ v. queue.Sublist v.0 v.1.0)
        (two-is IsSmall IsAKey (codes "SUBLIST") refl small a_key small-is key-is) (λ v h. (refl, h)) or tt);
    own = λ r h. own r h;
  }
    where
      own : (r : QueueReply) → IsQueueReply connectors r
          → answer_at (queue_answers connectors) (queue_side r) (queue_words connectors r) ≡ Some r
      own (queue.List answer) h = rw ((list-is connectors names).back answer h) refl
      own queue.Empty h = refl
      own queue.NotEmpty h = refl
      own (queue.Ok n) h = rw (small-is.back n h.0) refl
      own (queue.Sublist header key) h = rw (small-is.back header h.0, key-is.back key h.1.0) refl
