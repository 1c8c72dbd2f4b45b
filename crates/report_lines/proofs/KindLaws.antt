-- Entries of each kind of structure.
use Rattle.std.proofs.Common.{◌≡◌, ℕ, true, List, ◌++◌, Option, Some, None, codes, refl, sym, ap, ◌∙◌, subst, Result, IfOk, IfSome}
use Rattle.cf_types.specs.Forms.{IsFacility}
use Rattle.cf_types.specs.declared.names.Name16.{Name16}
use Rattle.cf_types.specs.declared.numbers.CfId.{CfId}
use Rattle.cf_types.specs.declared.numbers.ConnId.{ConnId}
use Rattle.cf_types.specs.declared.numbers.StrNo.{StrNo}
use Rattle.cf_types.specs.declared.alter_commands.AlterCmd.{AlterCmd}
use Rattle.cf_types.specs.declared.alter_commands.AlterReply.{AlterReply}
use Rattle.cf_types.specs.declared.cache_commands.CacheCmd.{CacheCmd}
use Rattle.cf_types.specs.declared.cache_commands.CacheReply.{CacheReply}
use Rattle.cf_types.specs.declared.cache_commands.CacheReply.TheVariants as cache
use Rattle.cf_types.specs.declared.list_commands.ListReply.{ListReply}
use Rattle.cf_types.specs.declared.list_commands.ListReply.TheVariants as list
use Rattle.cf_types.specs.declared.list_commands.QueueCmd.{QueueCmd}
use Rattle.cf_types.specs.declared.list_commands.QueueReply.{QueueReply}
use Rattle.cf_types.specs.declared.lock_commands.LockCmd.{LockCmd}
use Rattle.cf_types.specs.declared.lock_commands.LockReply.{LockReply}
use Rattle.cf_types.specs.declared.lock_commands.LockReply.TheVariants as lock
use Rattle.engine_api.specs.declared.asks.Ask.{Ask}
use Rattle.engine_api.specs.declared.asks.Ask.TheVariants.{Shell, Content}
use Rattle.engine_api.specs.declared.histories.Entry.{Entry}
use Rattle.plex_spell.specs.Words.{same_word}
use Rattle.plex_spell.proofs.Choices.{word-same}
use Rattle.plex_plain.specs.Naming.{facility_word}
use Rattle.plex_script.specs.declared.scripts.AnyAsk.{AnyAsk}
use Rattle.plex_script.specs.declared.scripts.Script.{Script}
use Rattle.plex_script.specs.Causes.{caller_of}
use Rattle.plex_script.specs.Commands.{MakesCommand}
use Rattle.plex_script.specs.Limits.{KeepsLimits}
use Rattle.plex_report.specs.CommandWords as words
use Rattle.plex_report.specs.ReplyWords.{alter_reply_words, queue_reply_words, lock_reply_words}
use Rattle.reply_rows.specs.Answers.{Answers}
use Rattle.reply_rows.specs.declared.sides.Side.{Side}
use Rattle.reply_rows.specs.Contents.{alter_answers, queue_answers, lock_answers, lock_row}
use Rattle.reply_rows.specs.Sides.{asked_side}
use Rattle.reply_rows.specs.Within.{IsAlterReply, IsQueueReply, IsLockReply}
use Rattle.reply_rows.proofs.AlterRows.{alter-are}
use Rattle.reply_rows.proofs.QueueRows.{queue-are}
use Rattle.reply_rows.proofs.LockRows.{lock-is}
use Rattle.reply_rows.proofs.Replies.{reply-is, alone-are, alter-avoids, queue-avoids, lock-avoids}
use Rattle.reply_rows.proofs.Printed.{alter-same, queue-same, lock-same}
use Rattle.report_lines.specs.Entries.{IsCutLine, any_words, StandsAs, call_entry, mark_entry}
use Rattle.report_lines.specs.Kinds.{has_words, IsKind}
use Rattle.report_lines.proofs.EntryLaws.{Prints, call-found, mark-found, if_ok_more, on_side}

-- ---- caches

abbrev pub of_cache : Ask (AlterCmd CacheCmd) → AnyAsk
of_cache asked = AnyAsk.Cache asked

pub is-cache : IsKind of_cache words.alter_words alter_reply_words alter_answers IsAlterReply
is-cache = record {
  asks = asks;
  printed = alter-same;
  some = some;
  reads = λ connectors names vary side.
      reply-is connectors (alter_answers connectors) (IsAlterReply connectors) names (alter-are connectors names)
      (alter-avoids connectors) vary side;
  one = λ a b e. cc;
}
  where
    asks : (script : Script) (asked : Ask (AlterCmd CacheCmd))
        → any_words script.connectors (of_cache asked) ≡ words.ask_words words.alter_words script asked
    asks script (Shell cmd) = refl
    asks script (Content cmd) = refl

    inner : (script : Script) (r : CacheReply) → has_words (alter_reply_words script (AlterReply.Inner r)) ≡ true
    inner script cache.Ok = refl
    inner script r = refl

    some : (script : Script) (r : AlterReply CacheReply) → has_words (alter_reply_words script r) ≡ true
    some script (AlterReply.Inner r) = inner script r
    some script r = refl

-- ---- lists

abbrev pub of_list : Ask QueueCmd → AnyAsk
of_list asked = AnyAsk.List asked

pub is-list : IsKind of_list words.queue_words queue_reply_words queue_answers IsQueueReply
is-list = record {
  asks = asks;
  printed = queue-same;
  some = some;
  reads = λ connectors names vary side.
      reply-is connectors (queue_answers connectors) (IsQueueReply connectors) names (queue-are connectors names)
      (queue-avoids connectors) vary side;
  one = λ a b e. cc;
}
  where
    asks : (script : Script) (asked : Ask QueueCmd)
        → any_words script.connectors (of_list asked) ≡ words.ask_words words.queue_words script asked
    asks script (Shell cmd) = refl
    asks script (Content cmd) = refl

    inner : (script : Script) (r : ListReply) → has_words (queue_reply_words script (QueueReply.List r)) ≡ true
    inner script list.Ok = refl
    inner script r = refl

    some : (script : Script) (r : QueueReply) → has_words (queue_reply_words script r) ≡ true
    some script (QueueReply.List r) = inner script r
    some script QueueReply.Empty = refl
    some script r = refl

-- ---- locks

abbrev pub of_lock : Ask LockCmd → AnyAsk
of_lock asked = AnyAsk.Lock asked

abbrev pub AreLockReplies : List Name16 → LockReply → Type 0
AreLockReplies connectors r = IsLockReply r

pub is-lock : IsKind of_lock words.lock_words lock_reply_words lock_answers AreLockReplies
is-lock = record {
  asks = asks;
  printed = lock-same;
  some = some;
  reads = λ connectors names vary side.
      reply-is connectors (lock_answers connectors) IsLockReply names (alone-are IsLockReply lock_row lock-is)
      lock-avoids vary side;
  one = λ a b e. cc;
}
  where
    asks : (script : Script) (asked : Ask LockCmd)
        → any_words script.connectors (of_lock asked) ≡ words.ask_words words.lock_words script asked
    asks script (Shell cmd) = refl
    asks script (Content cmd) = refl

    some : (script : Script) (r : LockReply) → has_words (lock_reply_words script r) ≡ true
    some script lock.Ok = refl
    some script r = refl

-- ---- what the readers give

pub some_of : {X : Type 0} (P : X → Type 0) (o : Option X) (x : X) → IfSome o P → o ≡ Some x → P x
some_of {X} P o x h e = subst (λ (p : Option X). IfSome p P) e h

module _ {C R : Type 0} (of : Ask C → AnyAsk) (cmd_words : Script → C → List (List ℕ))
    (answer_words : Script → R → List (List ℕ)) (answers : List Name16 → Answers R) (In : List Name16 → R → Type 0)
    (is : IsKind of cmd_words answer_words answers In) (script : Script) (on : StrNo) (line : List ℕ)
    (n : ℕ) (who done told : List ℕ) (connectors : List Name16) (keeps : KeepsLimits script)
    (cut : IsCutLine line n who done told) (named : connectors ≡ script.connectors) where
  abbrev Found : Entry C R → Type 0
  Found = Prints of cmd_words answer_words answers In is script on keeps line

  abbrev Made : ConnId → AnyAsk → Type 0
  Made by asked = MakesCommand script on by done asked × StandsAs script.connectors asked done

  call-if : (by : ConnId) (asked : Ask C) (o : Option (Entry C R)) → Some by ≡ caller_of connectors who
      → Made by (of asked) → o ≡ call_entry connectors (answers connectors) n by (asked_side (of asked)) asked told
      → IfSome o Found
  call-if by asked None called makes h = tt
  call-if by asked (Some entry) called makes h =
      let known : caller_of script.connectors who ≡ Some by =
      ap (λ (names : List Name16). caller_of names who) (sym named) ∙ sym called in
      let read = subst (λ (names : List Name16).
      Some entry ≡ call_entry names (answers names) n by (asked_side (of asked)) asked told) named h in
      call-found of cmd_words answer_words answers In is script on keeps line n who done told by asked entry cut known
      makes (sym read)

  mark-if : (cf : CfId) (o : Option (Entry C R)) → who ≡ codes "SYS"
      → (done ≡ codes "LOST " ++ facility_word cf) × IsFacility cf
      → o ≡ mark_entry connectors (answers connectors) n cf told → IfSome o Found
  mark-if cf None sys lost h = tt
  mark-if cf (Some entry) sys lost h =
      let read = subst (λ (names : List Name16). Some entry ≡ mark_entry names (answers names) n cf told) named h in
      mark-found of cmd_words answer_words answers In is script on keeps line n who done told cf entry cut sys lost
      (sym read)

  pub called : {E : Type 0} (by : ConnId) (o : Option AnyAsk) (call : AnyAsk) (side : Side) (asked : Ask C)
      (r : Result (Option (Entry C R)) E) → Some by ≡ caller_of connectors who → IfSome o (Made by) → o ≡ Some call
      → side ≡ asked_side call → call ≡ of asked
      → IfOk r (λ x. x ≡ call_entry connectors (answers connectors) n by side asked told)
      → IfOk r (λ x. IfSome x Found)
  called {E} by o call side asked r known found e is_side is_call h =
      let made : Made by (of asked) = subst (Made by) is_call (some_of (Made by) o call found e) in
      if_ok_more r (λ x. x ≡ call_entry connectors (answers connectors) n by (asked_side (of asked)) asked told)
      (λ x. IfSome x Found) (λ x read. call-if by asked x known made read)
      (on_side connectors (answers connectors) n by side call (of asked) asked told r is_side is_call h)

  pub marked : {E : Type 0} (cf : CfId) (r : Result (Option (Entry C R)) E) → true ≡ same_word who (codes "SYS")
      → (done ≡ codes "LOST " ++ facility_word cf) × IsFacility cf
      → IfOk r (λ x. x ≡ mark_entry connectors (answers connectors) n cf told) → IfOk r (λ x. IfSome x Found)
  marked {E} cf r sys lost h =
      if_ok_more r (λ x. x ≡ mark_entry connectors (answers connectors) n cf told) (λ x. IfSome x Found)
      (λ x read. mark-if cf x (word-same who (codes "SYS") (sym sys)) lost read) h
