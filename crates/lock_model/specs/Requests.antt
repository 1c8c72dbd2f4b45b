-- What OBTAIN and ALTER share: a request is granted at once, or it waits.
use Rattle.std.specs.Prelude.{Bool, true, false, List, [], ◌∷◌, Option, Some, None}
use Rattle.cf_types.specs.declared.events.Event.TheVariants as events
use Rattle.cf_types.specs.declared.events.Letter.{Letter}
use Rattle.cf_types.specs.declared.numbers.ConnId.{ConnId}
use Rattle.cf_types.specs.declared.lock_commands.LockReply.{LockReply}
use Rattle.cf_types.specs.declared.lock_commands.LockReply.TheVariants as replies
use Rattle.lock_queue.specs.declared.waiters.Waiter.{Waiter}
use Rattle.lock_model.specs.Interests.{manager_of}
use Rattle.lock_queue.specs.Waiters.{waiters_with, place_of}
use Rattle.lock_model.specs.Contents.{Content}
use Rattle.lock_model.specs.Grants.{Settlement, interests_granted}

abbrev pub content_asked : Bool → Waiter → Content → Content
content_asked true w content = record content { interests = interests_granted w content.interests }
content_asked false w content = record content { waiters = waiters_with w content.waiters }

abbrev pub reply : Bool → Waiter → Content → LockReply
reply true w content = replies.Granted
reply false w content = replies.Pending (place_of w content.waiters)

-- the manager, if there is one, is told of one that waits
abbrev pub contention : Waiter → Option ConnId → List Letter
contention w None = []
contention w (Some conn) = record { to = conn; event = events.Contention w.r w.conn } ∷ []

abbrev pub contention_letters : Waiter → Content → List Letter
contention_letters w content = contention w (manager_of w.r content.interests)

-- one waits
abbrev pub wait_settlement : Waiter → Content → Settlement
wait_settlement w content =
    record { content = content_asked false w content; letters = contention_letters w content }
