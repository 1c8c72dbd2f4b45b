-- Replies of entries: to a common command, to one on the content or on what stands around it, or a refusal.
use Rattle.std.specs.Prelude.{◌≡◌, Bool, true, false, ℕ, List, [], ◌∷◌, map, Option, None, Some, option_map, codes, IsSome}
use Rattle.cf_types.specs.declared.names.Name16.{Name16}
use Rattle.cf_types.specs.declared.shell_commands.ShellReply.{ShellReply}
use Rattle.cf_types.specs.declared.shell_commands.ShellReply.TheVariants as shell
use Rattle.cf_types.specs.declared.alter_commands.AlterReply.{AlterReply}
use Rattle.cf_types.specs.declared.alter_commands.AlterReply.TheVariants as alter
use Rattle.cf_types.specs.declared.cache_commands.CacheReply.{CacheReply}
use Rattle.cf_types.specs.declared.cache_commands.CacheReply.TheVariants as cache
use Rattle.cf_types.specs.declared.list_commands.ListReply.{ListReply}
use Rattle.cf_types.specs.declared.list_commands.ListReply.TheVariants as list
use Rattle.cf_types.specs.declared.list_commands.QueueReply.{QueueReply}
use Rattle.cf_types.specs.declared.list_commands.QueueReply.TheVariants as queue
use Rattle.cf_types.specs.declared.lock_commands.LockReply.{LockReply}
use Rattle.cf_types.specs.declared.lock_commands.LockReply.TheVariants as lock
use Rattle.engine_api.specs.declared.asks.Reply.{Reply}
use Rattle.engine_api.specs.declared.asks.Reply.TheVariants as reply
use Rattle.std.specs.List.{list_all}
use Rattle.line_rows.specs.Rows.{is_word, led, form, first_of}
use Rattle.reply_rows.specs.declared.sides.Side.{Side}
use Rattle.reply_rows.specs.declared.sides.Side.TheVariants as sides
use Rattle.reply_rows.specs.Answers.{Answers}
use Rattle.reply_rows.specs.Shells.{shell_row}
use Rattle.reply_rows.specs.Refusals.{refusal_row, IsRefusal}
use Rattle.reply_rows.specs.Within.{IsShellReply}

-- the side of the entry's command is tried first: its row names the replies of that side
abbrev pub tried : Side → List Side
tried sides.Common = sides.Common ∷ sides.Content ∷ sides.Around ∷ []
tried sides.Content = sides.Content ∷ sides.Around ∷ sides.Common ∷ []
tried sides.Around = sides.Around ∷ sides.Content ∷ sides.Common ∷ []

abbrev pub same_side : Side → Side → Bool
same_side sides.Common sides.Common = true
same_side sides.Content sides.Content = true
same_side sides.Around sides.Around = true
same_side _ _ = false

abbrev pub Unless : Bool → Type 0 → Type 0
Unless true P = Unit {0}
Unless false P = P

module _ {R : Type 0} (connectors : List Name16) (answers : Answers R) where
  abbrev pub reply_words : Bool → Reply R → List (List ℕ)
  reply_words vary (reply.Shell answer) = (shell_row connectors vary).words answer
  reply_words vary (reply.Content answer) = answers.words answer
  reply_words vary (reply.Refused refusal) = codes "REFUSED" ∷ (refusal_row connectors).words refusal

  -- what is read among the replies of one side
  abbrev pub told_at : Bool → Side → List (List ℕ) → Option (Reply R)
  told_at vary sides.Common words = form (shell_row connectors vary) (λ v. reply.Shell v) words
  told_at vary sides.Content words = option_map (λ v. reply.Content v) (answers.content words)
  told_at vary sides.Around words = option_map (λ v. reply.Content v) (answers.around words)

  abbrev pub told_forms : Bool → Side → List (List (List ℕ) → Option (Reply R))
  told_forms vary side = map (told_at vary) (tried side)

  abbrev pub reply_forms : Bool → Side → List (List (List ℕ) → Option (Reply R))
  reply_forms vary side =
      form (led (codes "REFUSED") (refusal_row connectors)) (λ v. reply.Refused v) ∷ told_forms vary side

  -- what a reader makes of the words of a reply, by the command's side
  abbrev pub reply_at : Bool → Side → List (List ℕ) → Option (Reply R)
  reply_at vary side words = first_of (reply_forms vary side) words

  -- of these sides none before its own reads these words
  abbrev pub NoneBefore : Bool → Side → List Side → List (List ℕ) → Type 0
  NoneBefore vary own [] words = Unit {0}
  NoneBefore vary own (side ∷ more) words =
      Unless (same_side own side) ((told_at vary side words ≡ None) × NoneBefore vary own more words)

  -- no reply of a side that is tried before the reply's own prints alike; the command's own is tried first
  abbrev pub IsNamed : Bool → Side → Reply R → Type 0
  IsNamed vary side (reply.Shell answer) =
      NoneBefore vary sides.Common (tried side) ((shell_row connectors vary).words answer)
  IsNamed vary side (reply.Content answer) =
      NoneBefore vary (answers.side answer) (tried side) (answers.words answer)
  IsNamed vary side (reply.Refused refusal) = Unit {0}

-- a reply with values in their range
module _ {R : Type 0} (connectors : List Name16) (In : R → Type 0) where
  abbrev pub IsReply : Reply R → Type 0
  IsReply (reply.Shell answer) = IsShellReply connectors answer
  IsReply (reply.Content answer) = In answer
  IsReply (reply.Refused refusal) = IsRefusal connectors refusal

module _ {R : Type 0} (connectors : List Name16) (answers : Answers R) (In : R → Type 0) where
  pub record IsRead (vary : Bool) (side : Side) : Type 0 where
    -- what is read is a reply that is printed so
    pub forth : (words : List (List ℕ)) (r : Reply R) → reply_at connectors answers vary side words ≡ Some r
        → (reply_words connectors answers vary r ≡ words) × IsReply connectors In r
        × (list_all is_word words ≡ true)
    -- each reply is read from its words, where none of a side that is tried before its own prints alike
    pub back : (r : Reply R) → IsReply connectors In r → IsNamed connectors answers vary side r
        → reply_at connectors answers vary side (reply_words connectors answers vary r) ≡ Some r
    -- and some reply is read from the words of any
    pub some : (r : Reply R) → IsReply connectors In r
        → IsSome (reply_at connectors answers vary side (reply_words connectors answers vary r))

-- ---- which replies print like one of another side

-- on the content, and around it, like one to a common command
abbrev pub alike_cache : CacheReply → Option ShellReply
alike_cache cache.Ok = Some shell.Ok
alike_cache (cache.OkCount n) = Some (shell.OkNumber n)
alike_cache _ = None

abbrev pub alike_alter : AlterReply CacheReply → Option ShellReply
alike_alter (alter.Inner answer) = alike_cache answer
alike_alter alter.Ok = Some shell.Ok
alike_alter (alter.Altered caps done) = None

abbrev pub alike_list : ListReply → Option ShellReply
alike_list list.Ok = Some shell.Ok
alike_list (list.OkCount n) = Some (shell.OkNumber n)
alike_list _ = None

abbrev pub alike_queue : QueueReply → Option ShellReply
alike_queue (queue.List answer) = alike_list answer
alike_queue (queue.Ok n) = Some (shell.OkNumber n)
alike_queue _ = None

abbrev pub alike_lock : LockReply → Option ShellReply
alike_lock lock.Ok = Some shell.Ok
alike_lock _ = None

-- on the content like one around it
abbrev pub outer_cache : CacheReply → Option (AlterReply CacheReply)
outer_cache cache.Ok = Some alter.Ok
outer_cache _ = None

abbrev pub outer_list : ListReply → Option QueueReply
outer_list list.Empty = Some queue.Empty
outer_list list.NotEmpty = Some queue.NotEmpty
outer_list (list.OkCount n) = Some (queue.Ok n)
outer_list _ = None

-- and around it like one on the content
abbrev pub inner_alter : AlterReply CacheReply → Option CacheReply
inner_alter (alter.Inner answer) = Some answer
inner_alter alter.Ok = Some cache.Ok
inner_alter (alter.Altered caps done) = None

abbrev pub inner_queue : QueueReply → Option ListReply
inner_queue (queue.List answer) = Some answer
inner_queue queue.Empty = Some list.Empty
inner_queue queue.NotEmpty = Some list.NotEmpty
inner_queue (queue.Ok n) = Some (list.OkCount n)
inner_queue (queue.Sublist header key) = None
