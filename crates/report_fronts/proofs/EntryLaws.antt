-- No line of an entry in range has a feed, and no line of an item.
use Rattle.std.proofs.Common.{◌≡◌, inl, inr, ℕ, ◌<◌, ◌^◌, Bool, true, false, List, [], ◌∷◌, ◌++◌, Option, Some, None, IsSome, codes, refl, sym, ap, subst, ◌∙◌, arith}
use Rattle.std.specs.Fmt.{decimal}
use Rattle.std.specs.List.{list_all}
use Rattle.cf_types.specs.declared.alter_commands.AlterCmd.{AlterCmd}
use Rattle.cf_types.specs.declared.cache_commands.CacheCmd.{CacheCmd}
use Rattle.cf_types.specs.declared.forms.Kind.{Kind}
use Rattle.cf_types.specs.declared.forms.Kind.TheVariants as kind
use Rattle.cf_types.specs.declared.list_commands.At.{At}
use Rattle.cf_types.specs.declared.list_commands.Cond.{Cond}
use Rattle.cf_types.specs.declared.list_commands.ListCmd.{ListCmd}
use Rattle.cf_types.specs.declared.list_commands.QueueCmd.{QueueCmd}
use Rattle.cf_types.specs.declared.names.Name16.{Name16}
use Rattle.cf_types.specs.declared.numbers.ConnId.{ConnId}
use Rattle.cf_types.specs.declared.numbers.StrNo.{StrNo}
use Rattle.cf_types.specs.declared.shell_commands.ShellCmd.TheVariants.{Next}
use Rattle.cf_types.specs.declared.shell_commands.ShellReply.TheVariants as shell
use Rattle.engine_api.specs.declared.asks.Ask.{Ask}
use Rattle.engine_api.specs.declared.asks.Ask.TheVariants.{Shell, Content}
use Rattle.engine_api.specs.declared.asks.Reply.{Reply}
use Rattle.engine_api.specs.declared.asks.Reply.TheVariants as reply
use Rattle.engine_api.specs.declared.asks.What.{What}
use Rattle.engine_api.specs.declared.asks.What.TheVariants as what
use Rattle.engine_api.specs.declared.histories.Entry.{Entry}
use Rattle.plex_spell.specs.ListWords.{at_tokens, cond_tokens}
use Rattle.plex_plain.specs.PlainWords.{plain_words}
use Rattle.plex_plain.specs.Ranges.{AreWithin}
use Rattle.plex_plain.proofs.CommandLaws.{cache_in, list_in, alter_in, queue_in, words_read, words_write, words_make, words_update, words_at, words_move, words_delete}
use Rattle.plex_plain.proofs.Rooms.{words-good, number-good, caller-good, facility-good}
use Rattle.plex_plain.proofs.Rows.{shell-row, alter-row, queue-row, lock-row}
use Rattle.plex_plain.proofs.Texts.{AreGood, line-clear}
use Rattle.plex_plain.proofs.Within.{words-within, within-front}
use Rattle.plex_script.specs.declared.scripts.Act.TheVariants.{Call}
use Rattle.plex_script.specs.declared.scripts.AnyAsk.{AnyAsk}
use Rattle.plex_script.specs.declared.scripts.AnyAsk.TheVariants as ask
use Rattle.plex_script.specs.declared.scripts.Script.{Script}
use Rattle.plex_script.specs.Agent.{shell_ask}
use Rattle.plex_script.specs.Causes.{declared_in, kind_of}
use Rattle.plex_script.specs.Commands.{MakesCommand}
use Rattle.plex_script.specs.Limits.{KeepsLimits}
use Rattle.plex_script.specs.LineWords.{act_tokens, retry_tokens}
use Rattle.plex_script.specs.Printed.{class_in}
use Rattle.plex_script.proofs.TokensTold.{act-told}
use Rattle.plex_report.specs.CommandWords.{ask_words, alter_words, queue_words, lock_words}
use Rattle.plex_report.specs.Lines.{entry_line, is_of_vary, reply_words, shown_line, what_words}
use Rattle.plex_report.specs.ReplyWords.{alter_reply_words, queue_reply_words, lock_reply_words}
use Rattle.line_rows.specs.Rows.{is_word}
use Rattle.line_rows.proofs.Words.{are-good}
use Rattle.reply_rows.specs.Answers.{Answers}
use Rattle.reply_rows.specs.declared.sides.Side.TheVariants.{Common}
use Rattle.reply_rows.specs.Contents.{alter_answers, queue_answers, lock_answers, lock_row}
use Rattle.reply_rows.specs.Replies as rows
use Rattle.reply_rows.specs.Within.{IsAlterReply, IsQueueReply, IsLockReply}
use Rattle.reply_rows.proofs.AlterRows.{alter-are}
use Rattle.reply_rows.proofs.QueueRows.{queue-are}
use Rattle.reply_rows.proofs.LockRows.{lock-is}
use Rattle.reply_rows.proofs.Printed.{alter-same, queue-same, lock-same, shell-same, refusal-same}
use Rattle.reply_rows.proofs.Replies.{reply-is, alone-are, alter-avoids, queue-avoids, lock-avoids}
use Rattle.report_lines.specs.Readable.{IsMarkReply, IsWhat, IsEntry}
use Rattle.report_lines.proofs.ItemLaws.{item-clear}
use Rattle.report_fronts.specs.Fronts.{AreEntriesFree, AreItemsFree}
use Rattle.report_fronts.specs.Slots.{PrintsEntry, IsEntryLine}
use Rattle.report_fronts.specs.Cuts.{is_free}
use Rattle.report_fronts.proofs.FreeLaws.{free_line}

-- ---- good words, one after another

good_on : (xs ys : List (List ℕ)) → AreGood xs → AreGood ys → AreGood (xs ++ ys)
good_on [] ys h k = k
good_on (x ∷ xs) ys h k = (h.0, h.1, good_on xs ys h.2 k)

-- ---- commands on the content of caches and lists name no connector

at_same : (a b : List Name16) (at : At) → plain_words [] a (at_tokens at) ≡ plain_words [] b (at_tokens at)
at_same a b at = grind arith

cond_same : (a b : List Name16) (cond : Option Cond)
    → plain_words [] a (cond_tokens cond) ≡ plain_words [] b (cond_tokens cond)
cond_same a b cond = grind arith

cache_unnamed : (a b : List Name16) (cmd : CacheCmd) → cache_in a cmd ≡ cache_in b cmd
cache_unnamed a b (CacheCmd.Read name index old stg) =
    words_read a name index old stg ∙ sym (words_read b name index old stg)
cache_unnamed a b (CacheCmd.Write name index body class adj old stg when_reg) =
    words_write a name index body class adj old stg when_reg
    ∙ sym (words_write b name index body class adj old stg when_reg)
cache_unnamed a b cmd = refl

list_unnamed : (a b : List Name16) (cmd : ListCmd) → list_in a cmd ≡ list_in b cmd
list_unnamed a b (ListCmd.Write header head name key body adj cond) = grind (arith, words_make, cond_same)
list_unnamed a b (ListCmd.Update at body adj version cond) = grind (arith, words_update, at_same, cond_same)
list_unnamed a b (ListCmd.Read at cond) = grind (arith, words_at, at_same, cond_same)
list_unnamed a b (ListCmd.Move at header head key version cond) = grind (arith, words_move, at_same, cond_same)
list_unnamed a b (ListCmd.Delete at version cond) = grind (arith, words_delete, at_same, cond_same)
list_unnamed a b cmd = refl

alter_unnamed : (a b : List Name16) (cmd : AlterCmd CacheCmd) → alter_in a cmd ≡ alter_in b cmd
alter_unnamed a b (AlterCmd.Inner cmd) = cache_unnamed a b cmd
alter_unnamed a b cmd = refl

queue_unnamed : (a b : List Name16) (cmd : QueueCmd) → queue_in a cmd ≡ queue_in b cmd
queue_unnamed a b (QueueCmd.List cmd) = list_unnamed a b cmd
queue_unnamed a b cmd = refl

module _ (script : Script) (keeps : KeepsLimits script) where
  -- ---- commands

  abbrev words_asked : AnyAsk → List (List ℕ)
  words_asked (ask.Cache asked) = ask_words alter_words script asked
  words_asked (ask.List asked) = ask_words queue_words script asked
  words_asked (ask.Lock asked) = ask_words lock_words script asked

  within_good : (asked : AnyAsk) → AreWithin (declared_in script) (act_tokens (class_in (Call asked)) (Call asked))
      → AreGood (words_asked asked)
  within_good (ask.Cache (Shell cmd)) h = (words-good (declared_in script) _ keeps.connectors (shell-row cmd).plain h).0
  within_good (ask.Cache (Content cmd)) h = subst AreGood (alter_unnamed script.connectors [] cmd)
      (words-good (declared_in script) _ keeps.connectors (alter-row _ cmd).plain h).0
  within_good (ask.List (Shell cmd)) h = (words-good (declared_in script) _ keeps.connectors (shell-row cmd).plain h).0
  within_good (ask.List (Content cmd)) h = subst AreGood (queue_unnamed script.connectors [] cmd)
      (words-good (declared_in script) _ keeps.connectors (queue-row cmd).plain h).0
  within_good (ask.Lock (Shell cmd)) h = (words-good (declared_in script) _ keeps.connectors (shell-row cmd).plain h).0
  within_good (ask.Lock (Content cmd)) h = (words-good (declared_in script) _ keeps.connectors (lock-row cmd).plain h).0

  next_good : (k : Kind) → AreGood (words_asked (shell_ask k Next))
  next_good kind.Cache = (refl, refl, tt)
  next_good (kind.List headers locks refs) = (refl, refl, tt)
  next_good kind.Lock = (refl, refl, tt)

  asked_good : (on : StrNo) (by : ConnId) (text : List ℕ) (asked : AnyAsk) → MakesCommand script on by text asked
      → AreGood (words_asked asked)
  asked_good on by text asked (inl made) =
      let says = made.0 in
      let within = words-within (declared_in script) _ _ _ says.spelled in
      let front = within-front (declared_in script) (act_tokens says.given (Call asked)) (retry_tokens 0) within in
      within_good asked (act-told (declared_in script) by (kind_of script.structures on) says.given (Call asked) 0
      says.allowed front)
  asked_good on by text asked (inr made) =
      subst (λ (a : AnyAsk). AreGood (words_asked a)) (sym made.2) (next_good (kind_of script.structures on))

  -- ---- entries

  module _ {C R : Type 0} (of : Ask C → AnyAsk) (In : List Name16 → R → Type 0)
      (cmd_words : Script → C → List (List ℕ)) (answer_words : Script → R → List (List ℕ)) (answers : Answers R)
      (asks : (asked : Ask C) → words_asked (of asked) ≡ ask_words cmd_words script asked)
      (same : (r : R) → answers.words r ≡ answer_words script r)
      (is : (vary : Bool) → rows.IsRead script.connectors answers (In script.connectors) vary Common) where
    -- the words of a reply in range are words
    reply_said : (vary : Bool) (r : Reply R) (o : Option (Reply R))
        → rows.reply_at script.connectors answers vary Common (rows.reply_words script.connectors answers vary r) ≡ o
        → IsSome o
        → list_all is_word (rows.reply_words script.connectors answers vary r) ≡ true
    reply_said vary r None e some = absurd (cc)
    reply_said vary r (Some other) e some =
        ((is vary).forth (rows.reply_words script.connectors answers vary r) other e).2

    printed_so : (vary : Bool) (r : Reply R)
        → rows.reply_words script.connectors answers vary r ≡ reply_words answer_words script vary r
    printed_so vary (reply.Shell answer) = shell-same script vary answer
    printed_so vary (reply.Content answer) = same answer
    printed_so vary (reply.Refused refusal) =
        ap (λ (ws : List (List ℕ)). codes "REFUSED" ∷ ws) (refusal-same script refusal)

    reply_good : (vary : Bool) (r : Reply R) → rows.IsReply script.connectors (In script.connectors) r
        → AreGood (reply_words answer_words script vary r)
    reply_good vary r h = subst AreGood (printed_so vary r) (are-good _ (reply_said vary r _ refl ((is vary).some r h)))

    mark_is : (r : Reply R) → IsMarkReply script.connectors r → rows.IsReply script.connectors (In script.connectors) r
    mark_is (reply.Shell (shell.Simplex cf)) h = h
    mark_is (reply.Shell (shell.Stopped number)) h = h
    mark_is (reply.Shell shell.FailedNow) h = h
    mark_is (reply.Shell answer) h = absurd h
    mark_is (reply.Content answer) h = absurd h
    mark_is (reply.Refused refusal) h = absurd h

    module _ (on : StrNo) where
      what_good : (by : ConnId) (answer : Reply R) (done : What C) → IsWhat of In script on by answer done
          → AreGood (what_words cmd_words script by done ++ codes "->"
          ∷ reply_words answer_words script (is_of_vary done) answer)
      what_good by answer (what.Call asked) h =
          let caller = caller-good script.connectors by.0 keeps.connectors h.0 in
          let command : AreGood (ask_words cmd_words script asked) =
          subst AreGood (asks asked) (asked_good on by h.1.0 (of asked) h.1.1) in
          let behind = reply_good (is_of_vary (what.Call asked)) answer h.2 in
          (caller.some, caller.solid_all, good_on (ask_words cmd_words script asked) _ command (refl, refl, behind))
      what_good by answer (what.Lost cf) h =
          let facility = facility-good cf h.1.1 in
          let behind = reply_good false answer (mark_is answer h.2) in
          (refl, refl, (refl, refl, (facility.some, facility.solid_all, (refl, refl, behind))))

      entry_good : (entry : Entry C R) → IsEntry of In script on entry
          → is_free (entry_line cmd_words answer_words script entry) ≡ true
      entry_good entry h =
          let small : entry.no < 2 ^ 64 = omega (arith, h.0) in
          let number = number-good entry.no small in
          let behind = what_words cmd_words script entry.by entry.what
          ++ codes "->" ∷ reply_words answer_words script (is_of_vary entry.what) entry.reply in
          let good : AreGood (decimal entry.no ∷ behind) =
          (number.some, number.solid_all, what_good entry.by entry.reply entry.what h.1) in
          free_line (entry_line cmd_words answer_words script entry) (line-clear (decimal entry.no ∷ behind) good)

      entries_good : (line : List ℕ) → PrintsEntry of In cmd_words answer_words script on line → is_free line ≡ true
      entries_good line h = ap is_free h.2 ∙ entry_good h.0 h.1

  pub entries_free : AreEntriesFree script
  entries_free = λ on line h. go on (kind_of script.structures on) line h
    where
      go : (on : StrNo) (k : Kind) (line : List ℕ) → IsEntryLine script on k line → is_free line ≡ true
      go on kind.Cache line h = entries_good ask.Cache IsAlterReply alter_words alter_reply_words
          (alter_answers script.connectors) (λ asked. refl) (alter-same script)
          (λ vary. reply-is script.connectors (alter_answers script.connectors) (IsAlterReply script.connectors)
          keeps.connectors (alter-are script.connectors keeps.connectors) (alter-avoids script.connectors) vary Common)
          on line h
      go on (kind.List headers locks refs) line h = entries_good ask.List IsQueueReply queue_words queue_reply_words
          (queue_answers script.connectors) (λ asked. refl) (queue-same script)
          (λ vary. reply-is script.connectors (queue_answers script.connectors) (IsQueueReply script.connectors)
          keeps.connectors (queue-are script.connectors keeps.connectors) (queue-avoids script.connectors) vary Common)
          on line h
      go on kind.Lock line h = entries_good ask.Lock (λ connectors. IsLockReply) lock_words lock_reply_words
          (lock_answers script.connectors) (λ asked. refl) (lock-same script)
          (λ vary. reply-is script.connectors (lock_answers script.connectors) IsLockReply
          keeps.connectors (alone-are IsLockReply lock_row lock-is) lock-avoids vary Common)
          on line h

  -- ---- items

  pub items_free : AreItemsFree script
  items_free = λ line h. ap is_free h.2 ∙ free_line (shown_line script h.0) (item-clear script keeps h.0 h.1)
