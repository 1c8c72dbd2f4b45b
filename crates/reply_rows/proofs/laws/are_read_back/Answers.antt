use Rattle.reply_rows.specs.Contents.{lock_row, alter_answers, queue_answers, lock_answers}
use Rattle.reply_rows.specs.Within.{IsAlterReply, IsQueueReply, IsLockReply}
use Rattle.reply_rows.proofs.AlterRows.{alter-are}
use Rattle.reply_rows.proofs.QueueRows.{queue-are}
use Rattle.reply_rows.proofs.LockRows.{lock-is}
use Rattle.reply_rows.proofs.Replies.{alone-are, reply-is, alter-avoids, queue-avoids, lock-avoids}
use Rattle.reply_rows.proofs.laws.are_read_back.Goals as goal

pub returns : goal.returns
returns c connectors vary side names = (
  reply-is connectors (alter_answers connectors)
      (IsAlterReply connectors) names (alter-are connectors names) (alter-avoids connectors) vary side,
  reply-is connectors (queue_answers connectors)
      (IsQueueReply connectors) names (queue-are connectors names) (queue-avoids connectors) vary side,
  reply-is connectors (lock_answers connectors) IsLockReply names (alone-are IsLockReply lock_row lock-is) lock-avoids
      vary side,
)
