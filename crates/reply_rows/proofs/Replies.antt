-- Replies are read back.
use Rattle.std.proofs.Common.{◌≡◌, ℕ, Bool, true, false, List, Option, None, Some, option_map, codes, IsSome, refl, ◌∙◌}
use Rattle.cf_types.specs.declared.names.Name16.{Name16}
use Rattle.cf_types.specs.declared.shell_commands.ShellReply.{ShellReply}
use Rattle.cf_types.specs.declared.shell_commands.ShellReply.TheVariants as shell
use Rattle.cf_types.specs.declared.alter_commands.AlterReply.{AlterReply}
use Rattle.cf_types.specs.declared.alter_commands.AlterReply.TheVariants as alter
use Rattle.cf_types.specs.declared.cache_commands.CacheReply.{CacheReply}
use Rattle.cf_types.specs.declared.cache_commands.CacheReply.TheVariants as cache
use Rattle.cf_types.specs.declared.list_commands.ListReply.{ListReply}
use Rattle.cf_types.specs.declared.list_commands.ListReply.TheVariants as list
use Rattle.cf_types.specs.declared.list_commands.QueueReply.{QueueReply}
use Rattle.cf_types.specs.declared.list_commands.QueueReply.TheVariants as queue
use Rattle.cf_types.specs.declared.lock_commands.LockReply.{LockReply}
use Rattle.cf_types.specs.declared.lock_commands.LockReply.TheVariants as lock
use Rattle.reply_rows.specs.Contents.{cache_row, list_row, lock_row, alter_words, alter_forms, alter_answers, queue_words, queue_forms, queue_answers}
use Rattle.reply_rows.proofs.PartLaws.{small-is}
use Rattle.std.specs.List.{list_all}
use Rattle.engine_api.specs.declared.asks.Reply.{Reply}
use Rattle.engine_api.specs.declared.asks.Reply.TheVariants as reply
use Rattle.plex_plain.specs.Ranges.{AreNames}
use Rattle.plex_spell.specs.Words.{begins_with}
use Rattle.plex_spell.proofs.Choices.{mapped, not_some}
use Rattle.reply_rows.specs.declared.sides.Side.{Side}
use Rattle.reply_rows.specs.declared.sides.Side.TheVariants as sides
use Rattle.line_rows.specs.Rows.{is_word, Row, IsRow, IsForth, led, form, or_else, first_of}
use Rattle.line_rows.proofs.RowLaws.{◌or◌, led-is, first-forth, form-forth, Avoids}
use Rattle.reply_rows.specs.Shells.{shell_row}
use Rattle.reply_rows.specs.Refusals.{refusal_row, IsRefusal}
use Rattle.reply_rows.specs.Within.{IsShellReply, IsCacheReply, IsAlterReply, IsListReply, IsQueueReply}
use Rattle.reply_rows.specs.Answers.{Answers, alone, answer_at, AreAnswers}
use Rattle.reply_rows.specs.Replies.{tried, reply_words, told_at, told_forms, NoneBefore, IsReply, reply_forms, reply_at, IsNamed, IsRead, alike_cache, alike_alter, alike_list, alike_queue, alike_lock, outer_cache, outer_list, inner_alter, inner_queue}
use Rattle.reply_rows.proofs.ShellRows.{shell-is}
use Rattle.reply_rows.proofs.RefusalRows.{refusal-is}
use Rattle.reply_rows.proofs.CacheRows.{cache-is}
use Rattle.reply_rows.proofs.ListRows.{list-is}

pub shell-avoids : (connectors : List Name16) (vary : Bool) → Avoids (codes "REFUSED") (shell_row connectors vary)
shell-avoids connectors vary shell.Ok = refl
shell-avoids connectors vary (shell.OkNew cf) = refl
shell-avoids connectors vary (shell.Reconnected cf) = refl
shell-avoids connectors vary (shell.Event e) = refl
shell-avoids connectors vary (shell.Responded e) = refl
shell-avoids connectors vary (shell.OkNumber n) = refl
shell-avoids connectors vary (shell.OkAt cf) = refl
shell-avoids connectors vary (shell.Copied m n) = refl
shell-avoids connectors vary shell.OkNone = refl
shell-avoids connectors true (shell.Simplex cf) = refl
shell-avoids connectors false (shell.Simplex cf) = refl
shell-avoids connectors true (shell.Stopped n) = refl
shell-avoids connectors false (shell.Stopped n) = refl
shell-avoids connectors true shell.FailedNow = refl
shell-avoids connectors false shell.FailedNow = refl

-- what is made of what is read
made-forth : {V R : Type 0} (In : R → Type 0) (words : R → List (List ℕ)) (P : V → Type 0) (said : V → List (List ℕ))
    (values : List (List ℕ) → Option V) (make : V → R) → IsForth P said values
    → ((v : V) → P v → (words (make v) ≡ said v) × In (make v)) → IsForth In words (λ ws. option_map make (values ws))
made-forth {V} {R} In words P said values make is same ws r h =
    let m = mapped make (values ws) r h in
    let f = is ws m.value m.read in
    let s = same m.value f.1 in
    rw (← m.made) (s.0 ∙ f.0, s.1, f.2)

-- one of three readings
some-first : {R : Type 0} (o p q : Option R) → IsSome o → IsSome (or_else o (or_else p (or_else q None)))
some-first None p q h = absurd (cc)
some-first (Some r) p q h = refl

some-second : {R : Type 0} (o p q : Option R) → IsSome p → IsSome (or_else o (or_else p (or_else q None)))
some-second (Some r) p q h = refl
some-second None None q h = absurd (cc)
some-second None (Some r) q h = refl

some-third : {R : Type 0} (o p q : Option R) → IsSome q → IsSome (or_else o (or_else p (or_else q None)))
some-third (Some r) p q h = refl
some-third None (Some r) q h = refl
some-third None None None h = absurd (cc)
some-third None None (Some r) h = refl

front : {R : Type 0} (o other : Option R) (r : R) → o ≡ Some r → or_else o other ≡ Some r
front o other r h = rw h refl

behind : {R : Type 0} (o other : Option R) (r : R) → o ≡ None → other ≡ Some r → or_else o other ≡ Some r
behind o other r none h = rw none h

-- where nothing stands around the content
pub alone-are : {R : Type 0} (In : R → Type 0) (row : Row R) → IsRow In row → AreAnswers In (alone row)
alone-are In row is = record {
  content = is.forth;
  around = λ ws r h. absurd (not_some r h);
  own = is.back;
}

abbrev pub Spares : {R : Type 0} → List ℕ → Answers R → Type 0
Spares {R} word answers = (r : R) → begins_with word (answers.words r) ≡ false

module _ {R : Type 0} (connectors : List Name16) (answers : Answers R) (In : R → Type 0) (names : AreNames connectors)
    (are : AreAnswers In answers) (spares : Spares (codes "REFUSED") answers) where
  refused-is : IsRow (IsRefusal connectors) (led (codes "REFUSED") (refusal_row connectors))
  refused-is = led-is _ (codes "REFUSED") refl _ (refusal-is connectors names)

  abbrev Forth : Bool → (List (List ℕ) → Option (Reply R)) → Type 0
  Forth vary reading = IsForth (IsReply connectors In) (reply_words connectors answers vary) reading

  -- ---- what is read prints so

  told-forth : (vary : Bool) (side : Side) → Forth vary (told_at connectors answers vary side)
  told-forth vary sides.Common =
      form-forth (IsReply connectors In) (reply_words connectors answers vary) (IsShellReply connectors)
      (shell_row connectors vary) (λ v. reply.Shell v) (shell-is connectors names vary) (λ v h. (refl, h))
  told-forth vary sides.Content = made-forth (IsReply connectors In) (reply_words connectors answers vary) In
      answers.words answers.content (λ v. reply.Content v) are.content (λ v h. (refl, h))
  told-forth vary sides.Around = made-forth (IsReply connectors In) (reply_words connectors answers vary) In
      answers.words answers.around (λ v. reply.Content v) are.around (λ v h. (refl, h))

  refused-forth : (vary : Bool)
      → Forth vary (form (led (codes "REFUSED") (refusal_row connectors)) (λ v. reply.Refused v))
  refused-forth vary =
      form-forth (IsReply connectors In) (reply_words connectors answers vary) (IsRefusal connectors)
      (led (codes "REFUSED") (refusal_row connectors)) (λ v. reply.Refused v) refused-is (λ v h. (refl, h))

  forth : (vary : Bool) (side : Side) → Forth vary (reply_at connectors answers vary side)
  forth vary sides.Common = first-forth
      (IsReply connectors In) (reply_words connectors answers vary) (reply_forms connectors answers vary sides.Common)
      (refused-forth vary or told-forth vary sides.Common or told-forth vary sides.Content
      or told-forth vary sides.Around or tt)
  forth vary sides.Content = first-forth
      (IsReply connectors In) (reply_words connectors answers vary) (reply_forms connectors answers vary sides.Content)
      (refused-forth vary or told-forth vary sides.Content or told-forth vary sides.Around
      or told-forth vary sides.Common or tt)
  forth vary sides.Around = first-forth
      (IsReply connectors In) (reply_words connectors answers vary) (reply_forms connectors answers vary sides.Around)
      (refused-forth vary or told-forth vary sides.Around or told-forth vary sides.Content
      or told-forth vary sides.Common or tt)

  -- ---- what is printed is read, on its own side

  module _ (vary : Bool) (words : List (List ℕ)) where
    abbrev At : Side → Option (Reply R)
    At side = told_at connectors answers vary side words

    told-own : (own : Side) (answer : R) → answer_at answers own words ≡ Some answer
        → At own ≡ Some (reply.Content answer)
    told-own sides.Common answer h = absurd (not_some answer h)
    told-own sides.Content answer h = rw h refl
    told-own sides.Around answer h = rw h refl

    own-first : (own side : Side) (r : Reply R) → At own ≡ Some r
        → NoneBefore connectors answers vary own (tried side) words
        → first_of (told_forms connectors answers vary side) words ≡ Some r
    own-first sides.Common sides.Common r h n = front _ _ r h
    own-first sides.Content sides.Common r h n = behind _ _ r n.0 (front _ _ r h)
    own-first sides.Around sides.Common r h n = behind _ _ r n.0 (behind _ _ r n.1.0 (front _ _ r h))
    own-first sides.Content sides.Content r h n = front _ _ r h
    own-first sides.Around sides.Content r h n = behind _ _ r n.0 (front _ _ r h)
    own-first sides.Common sides.Content r h n = behind _ _ r n.0 (behind _ _ r n.1.0 (front _ _ r h))
    own-first sides.Around sides.Around r h n = front _ _ r h
    own-first sides.Content sides.Around r h n = behind _ _ r n.0 (front _ _ r h)
    own-first sides.Common sides.Around r h n = behind _ _ r n.0 (behind _ _ r n.1.0 (front _ _ r h))

    own-some : (own side : Side) → IsSome (At own) → IsSome (first_of (told_forms connectors answers vary side) words)
    own-some sides.Common sides.Common h = some-first (At sides.Common) (At sides.Content) (At sides.Around) h
    own-some sides.Content sides.Common h = some-second (At sides.Common) (At sides.Content) (At sides.Around) h
    own-some sides.Around sides.Common h = some-third (At sides.Common) (At sides.Content) (At sides.Around) h
    own-some sides.Content sides.Content h = some-first (At sides.Content) (At sides.Around) (At sides.Common) h
    own-some sides.Around sides.Content h = some-second (At sides.Content) (At sides.Around) (At sides.Common) h
    own-some sides.Common sides.Content h = some-third (At sides.Content) (At sides.Around) (At sides.Common) h
    own-some sides.Around sides.Around h = some-first (At sides.Around) (At sides.Content) (At sides.Common) h
    own-some sides.Content sides.Around h = some-second (At sides.Around) (At sides.Content) (At sides.Common) h
    own-some sides.Common sides.Around h = some-third (At sides.Around) (At sides.Content) (At sides.Common) h

  shell-told : (vary : Bool) (a : ShellReply) → IsShellReply connectors a
      → told_at connectors answers vary sides.Common ((shell_row connectors vary).words a) ≡ Some (reply.Shell a)
  shell-told vary a h = rw ((shell-is connectors names vary).back a h) refl

  answer-told : (vary : Bool) (a : R) → In a
      → told_at connectors answers vary (answers.side a) (answers.words a) ≡ Some (reply.Content a)
  answer-told vary a h = told-own vary (answers.words a) (answers.side a) a (are.own a h)

  back : (vary : Bool) (side : Side) (r : Reply R) → IsReply connectors In r → IsNamed connectors answers vary side r
      → reply_at connectors answers vary side (reply_words connectors answers vary r) ≡ Some r
  back vary side (reply.Shell a) h n = rw (shell-avoids connectors vary a) (own-first
      vary ((shell_row connectors vary).words a) sides.Common side (reply.Shell a) (shell-told vary a h) n)
  back vary side (reply.Content a) h n = rw (spares a) (own-first
      vary (answers.words a) (answers.side a) side (reply.Content a) (answer-told vary a h) n)
  back vary side (reply.Refused r) h n = rw (refused-is.back r h) refl

  some : (vary : Bool) (side : Side) (r : Reply R)
      → IsReply connectors In r → IsSome (reply_at connectors answers vary side (reply_words connectors answers vary r))
  some vary side (reply.Shell a) h = rw (shell-avoids connectors vary a) (own-some
      vary ((shell_row connectors vary).words a) sides.Common side (rw (shell-told vary a h) refl))
  some vary side (reply.Content a) h = rw (spares a) (own-some
      vary (answers.words a) (answers.side a) side (rw (answer-told vary a h) refl))
  some vary side (reply.Refused r) h = rw (refused-is.back r h) refl

  pub reply-is : (vary : Bool) (side : Side) → IsRead connectors answers In vary side
  reply-is vary side = record { forth = forth vary side; back = back vary side; some = some vary side }

-- ---- the three kinds

pub cache-avoids : (connectors : List Name16) → Avoids (codes "REFUSED") (cache_row connectors)
cache-avoids connectors (cache.Data body adj changed) = refl
cache-avoids connectors cache.NoData = refl
cache-avoids connectors cache.Ok = refl
cache-avoids connectors (cache.OkCount n) = refl
cache-avoids connectors (cache.Regs regs) = refl
cache-avoids connectors (cache.CastData body adj) = refl
cache-avoids connectors (cache.Unlocked changed) = refl
cache-avoids connectors (cache.Names xs) = refl
cache-avoids connectors (cache.Stats counts) = refl
cache-avoids connectors (cache.Dir None stg holder regs) = refl
cache-avoids connectors (cache.Dir (Some class) stg holder regs) = refl
cache-avoids connectors (cache.Stg rows changed) = refl

pub list-avoids : (connectors : List Name16) → Avoids (codes "REFUSED") (list_row connectors)
list-avoids connectors (list.Id id) = refl
list-avoids connectors (list.Entry id header version name key body adj) = refl
list-avoids connectors list.Ok = refl
list-avoids connectors (list.Ids ids) = refl
list-avoids connectors (list.Holder holder) = refl
list-avoids connectors (list.Controls count limit) = refl
list-avoids connectors list.Empty = refl
list-avoids connectors list.NotEmpty = refl
list-avoids connectors (list.OkCount n) = refl

pub lock-avoids : Avoids (codes "REFUSED") lock_row
lock-avoids lock.Granted = refl
lock-avoids (lock.Pending place) = refl
lock-avoids lock.Ok = refl
lock-avoids (lock.Records records) = refl

pub alter-avoids : (connectors : List Name16) → Spares (codes "REFUSED") (alter_answers connectors)
alter-avoids connectors (alter.Inner answer) = cache-avoids connectors answer
alter-avoids connectors alter.Ok = refl
alter-avoids connectors (alter.Altered caps done) = refl

pub queue-avoids : (connectors : List Name16) → Spares (codes "REFUSED") (queue_answers connectors)
queue-avoids connectors (queue.List answer) = list-avoids connectors answer
queue-avoids connectors queue.Empty = refl
queue-avoids connectors queue.NotEmpty = refl
queue-avoids connectors (queue.Ok n) = refl
queue-avoids connectors (queue.Sublist header key) = refl

-- ---- which replies print like one to a common command: OK, and OK with a number

pub cache-alike : (connectors : List Name16) (vary : Bool) (r : CacheReply) → IsCacheReply connectors r
    → (shell_row connectors vary).values ((cache_row connectors).words r) ≡ alike_cache r
cache-alike connectors true r h = cases r h
  where
    cases : (r : CacheReply) → IsCacheReply connectors r
        → (shell_row connectors true).values ((cache_row connectors).words r) ≡ alike_cache r
    cases (cache.Data body adj changed) h = refl
    cases cache.NoData h = refl
    cases cache.Ok h = refl
    cases (cache.OkCount n) h = rw (small-is.back n h.0) refl
    cases (cache.Regs regs) h = refl
    cases (cache.CastData body adj) h = refl
    cases (cache.Unlocked true) h = refl
    cases (cache.Unlocked false) h = refl
    cases (cache.Names xs) h = refl
    cases (cache.Stats counts) h = refl
    cases (cache.Dir None stg holder regs) h = refl
    cases (cache.Dir (Some class) stg holder regs) h = refl
    cases (cache.Stg rows changed) h = refl
cache-alike connectors false r h = cases r h
  where
    cases : (r : CacheReply) → IsCacheReply connectors r
        → (shell_row connectors false).values ((cache_row connectors).words r) ≡ alike_cache r
    cases (cache.Data body adj changed) h = refl
    cases cache.NoData h = refl
    cases cache.Ok h = refl
    cases (cache.OkCount n) h = rw (small-is.back n h.0) refl
    cases (cache.Regs regs) h = refl
    cases (cache.CastData body adj) h = refl
    cases (cache.Unlocked true) h = refl
    cases (cache.Unlocked false) h = refl
    cases (cache.Names xs) h = refl
    cases (cache.Stats counts) h = refl
    cases (cache.Dir None stg holder regs) h = refl
    cases (cache.Dir (Some class) stg holder regs) h = refl
    cases (cache.Stg rows changed) h = refl

pub list-alike : (connectors : List Name16) (vary : Bool) (r : ListReply) → IsListReply connectors r
    → (shell_row connectors vary).values ((list_row connectors).words r) ≡ alike_list r
list-alike connectors true (list.Id id) h = refl
list-alike connectors true (list.Entry id header version name key body adj) h = refl
list-alike connectors true list.Ok h = refl
list-alike connectors true (list.Ids ids) h = refl
list-alike connectors true (list.Holder holder) h = refl
list-alike connectors true (list.Controls count limit) h = refl
list-alike connectors true list.Empty h = refl
list-alike connectors true list.NotEmpty h = refl
list-alike connectors true (list.OkCount n) h = rw (small-is.back n h.0) refl
list-alike connectors false (list.Id id) h = refl
list-alike connectors false (list.Entry id header version name key body adj) h = refl
list-alike connectors false list.Ok h = refl
list-alike connectors false (list.Ids ids) h = refl
list-alike connectors false (list.Holder holder) h = refl
list-alike connectors false (list.Controls count limit) h = refl
list-alike connectors false list.Empty h = refl
list-alike connectors false list.NotEmpty h = refl
list-alike connectors false (list.OkCount n) h = rw (small-is.back n h.0) refl

pub lock-alike : (connectors : List Name16) (vary : Bool) (r : LockReply)
    → (shell_row connectors vary).values (lock_row.words r) ≡ alike_lock r
lock-alike connectors true lock.Granted = refl
lock-alike connectors true (lock.Pending place) = refl
lock-alike connectors true lock.Ok = refl
lock-alike connectors true (lock.Records records) = refl
lock-alike connectors false lock.Granted = refl
lock-alike connectors false (lock.Pending place) = refl
lock-alike connectors false lock.Ok = refl
lock-alike connectors false (lock.Records records) = refl

pub alter-alike : (connectors : List Name16) (vary : Bool) (r : AlterReply CacheReply) → IsAlterReply connectors r
    → (shell_row connectors vary).values (alter_words connectors r) ≡ alike_alter r
alter-alike connectors vary (alter.Inner answer) h = cache-alike connectors vary answer h
alter-alike connectors vary alter.Ok h = refl
alter-alike connectors true (alter.Altered caps done) h = refl
alter-alike connectors false (alter.Altered caps done) h = refl

pub queue-alike : (connectors : List Name16) (vary : Bool) (r : QueueReply) → IsQueueReply connectors r
    → (shell_row connectors vary).values (queue_words connectors r) ≡ alike_queue r
queue-alike connectors vary (queue.List answer) h = list-alike connectors vary answer h
queue-alike connectors true queue.Empty h = refl
queue-alike connectors false queue.Empty h = refl
queue-alike connectors true queue.NotEmpty h = refl
queue-alike connectors false queue.NotEmpty h = refl
queue-alike connectors vary (queue.Ok n) h = rw (small-is.back n h.0) refl
queue-alike connectors true (queue.Sublist header key) h = refl
queue-alike connectors false (queue.Sublist header key) h = refl

-- ---- which print on both sides of the content: a cache's OK; of lists EMPTY, NOTEMPTY, and OK with a number

pub cache-outer : (connectors : List Name16) (r : CacheReply) → IsCacheReply connectors r
    → first_of alter_forms ((cache_row connectors).words r) ≡ outer_cache r
cache-outer connectors (cache.Data body adj changed) h = refl
cache-outer connectors cache.NoData h = refl
cache-outer connectors cache.Ok h = refl
cache-outer connectors (cache.OkCount n) h = refl
cache-outer connectors (cache.Regs regs) h = refl
cache-outer connectors (cache.CastData body adj) h = refl
cache-outer connectors (cache.Unlocked changed) h = refl
cache-outer connectors (cache.Names xs) h = refl
cache-outer connectors (cache.Stats counts) h = refl
cache-outer connectors (cache.Dir None stg holder regs) h = refl
cache-outer connectors (cache.Dir (Some class) stg holder regs) h = refl
cache-outer connectors (cache.Stg rows changed) h = refl

pub list-outer : (connectors : List Name16) (r : ListReply) → IsListReply connectors r
    → first_of queue_forms ((list_row connectors).words r) ≡ outer_list r
list-outer connectors (list.Id id) h = refl
list-outer connectors (list.Entry id header version name key body adj) h = refl
list-outer connectors list.Ok h = refl
list-outer connectors (list.Ids ids) h = refl
list-outer connectors (list.Holder holder) h = refl
list-outer connectors (list.Controls count limit) h = refl
list-outer connectors list.Empty h = refl
list-outer connectors list.NotEmpty h = refl
list-outer connectors (list.OkCount n) h = rw (small-is.back n h.0) refl

pub alter-inner : (connectors : List Name16) (r : AlterReply CacheReply) → IsAlterReply connectors r
    → AreNames connectors → (cache_row connectors).values (alter_words connectors r) ≡ inner_alter r
alter-inner connectors (alter.Inner answer) h names = (cache-is connectors names).back answer h
alter-inner connectors alter.Ok h names = refl
alter-inner connectors (alter.Altered caps done) h names = refl

pub queue-inner : (connectors : List Name16) (r : QueueReply) → IsQueueReply connectors r
    → AreNames connectors → (list_row connectors).values (queue_words connectors r) ≡ inner_queue r
queue-inner connectors (queue.List answer) h names = (list-is connectors names).back answer h
queue-inner connectors queue.Empty h names = refl
queue-inner connectors queue.NotEmpty h names = refl
queue-inner connectors (queue.Ok n) h names = rw (small-is.back n h.0) refl
queue-inner connectors (queue.Sublist header key) h names = refl
