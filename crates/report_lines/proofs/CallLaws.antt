-- The words of a call that some text makes, and the lines of entries in range.
use Rattle.std.proofs.Common.{◌≡◌, ℕ, ◌<◌, ◌^◌, Bool, true, List, [], ◌∷◌, ◌++◌, Option, Some, None, codes, decimal, refl, sym, ap, ◌∙◌, arith, subst, inl, inr}
use Rattle.std.specs.List.{list_all}
use Rattle.std.proofs.lemmas.Bool.{and_from}
use Rattle.plex_spell.specs.Tokens.{Token}
use Rattle.cf_types.specs.Forms.{IsFacility}
use Rattle.cf_types.specs.declared.names.Name16.{Name16}
use Rattle.cf_types.specs.declared.forms.Kind.{Kind}
use Rattle.cf_types.specs.declared.numbers.ConnId.{ConnId}
use Rattle.cf_types.specs.declared.numbers.StrNo.{StrNo}
use Rattle.cf_types.specs.declared.alter_commands.AlterCmd.{AlterCmd}
use Rattle.cf_types.specs.declared.cache_commands.CacheCmd.{CacheCmd}
use Rattle.cf_types.specs.declared.list_commands.ListCmd.{ListCmd}
use Rattle.cf_types.specs.declared.list_commands.QueueCmd.{QueueCmd}
use Rattle.cf_types.specs.declared.list_commands.At.{At}
use Rattle.cf_types.specs.declared.list_commands.Cond.{Cond}
use Rattle.cf_types.specs.declared.list_commands.Cond.TheVariants.{NotHeld, HeldBy}
use Rattle.cf_types.specs.declared.shell_commands.ShellCmd.TheVariants.{Next}
use Rattle.cf_types.specs.declared.shell_commands.ShellReply.TheVariants as shell
use Rattle.engine_api.specs.declared.asks.Ask.{Ask}
use Rattle.engine_api.specs.declared.asks.Ask.TheVariants.{Shell, Content}
use Rattle.engine_api.specs.declared.asks.Reply.{Reply}
use Rattle.engine_api.specs.declared.asks.Reply.TheVariants as reply
use Rattle.engine_api.specs.declared.asks.What.{What}
use Rattle.engine_api.specs.declared.asks.What.TheVariants as what
use Rattle.engine_api.specs.declared.histories.Entry.{Entry}
use Rattle.plex_spell.specs.ListWords.{at_tokens, cond_tokens}
use Rattle.plex_plain.specs.Naming.{caller_name, facility_word}
use Rattle.plex_plain.specs.PlainWords.{plain_words, cache_words, list_words, alter_words, queue_words}
use Rattle.plex_plain.specs.Ranges.{AreWithin}
use Rattle.plex_plain.proofs.CommandLaws.{cache_in, list_in, alter_in, queue_in, words_read, words_write, words_make, words_update, words_at, words_move, words_delete}
use Rattle.plex_plain.proofs.Rooms.{IsRow, words-good}
use Rattle.plex_plain.proofs.Rows.{shell-row, alter-row, queue-row, lock-row}
use Rattle.plex_plain.proofs.Texts.{AreGood, clear, line-clear}
use Rattle.plex_plain.proofs.Within.{words-within}
use Rattle.plex_script.proofs.Imports.{within-front}
use Rattle.plex_script.proofs.TokensTold.{act-told}
use Rattle.plex_script.specs.declared.scripts.Act.TheVariants.{Call}
use Rattle.plex_script.specs.declared.scripts.AnyAsk.{AnyAsk}
use Rattle.plex_script.specs.declared.scripts.Script.{Script}
use Rattle.plex_script.specs.Agent.{shell_ask}
use Rattle.plex_script.specs.Causes.{declared_in, kind_of}
use Rattle.plex_script.specs.Commands.{MakesCommand}
use Rattle.plex_script.specs.Limits.{KeepsLimits}
use Rattle.plex_script.specs.LineWords.{act_tokens, retry_tokens}
use Rattle.plex_script.specs.Printed.{class_in}
use Rattle.plex_report.specs.Lines as lines
use Rattle.plex_report.specs.Lines.{entry_line, is_of_vary}
use Rattle.line_rows.specs.Rows.{is_word}
use Rattle.line_rows.proofs.Words.{are-good, number-word, caller-said, facility-word}
use Rattle.reply_rows.specs.Answers.{Answers}
use Rattle.reply_rows.specs.declared.sides.Side.TheVariants.{Common}
use Rattle.reply_rows.specs.Replies.{IsReply}
use Rattle.report_lines.specs.Entries.{any_words}
use Rattle.report_lines.specs.Kinds.{IsKind}
use Rattle.report_lines.specs.Readable.{IsEntry, IsWhat, IsMarkReply}
use Rattle.report_lines.proofs.EntryLaws.{replies-same}
use Rattle.report_lines.proofs.ReplyLines.{reply-good}

-- ---- commands on the content name no connector

cond-any : (connectors : List Name16) (cond : Option Cond)
    → plain_words [] connectors (cond_tokens cond) ≡ plain_words [] [] (cond_tokens cond)
cond-any connectors None = refl
cond-any connectors (Some (NotHeld lock)) = refl
cond-any connectors (Some (HeldBy lock)) = refl

at-any : (connectors : List Name16) (at : At)
    → plain_words [] connectors (at_tokens at) ≡ plain_words [] [] (at_tokens at)
at-any connectors (At.Id id) = refl
at-any connectors at = refl

cache-any : (connectors : List Name16) (cmd : CacheCmd) → cache_words cmd ≡ cache_in connectors cmd
cache-any connectors (CacheCmd.Read name index old stg) =
    words_read [] name index old stg ∙ sym (words_read connectors name index old stg)
cache-any connectors (CacheCmd.Write name index body class adj old stg when_reg) =
    words_write [] name index body class adj old stg when_reg
    ∙ sym (words_write connectors name index body class adj old stg when_reg)
cache-any connectors cmd = refl

list-any : (connectors : List Name16) (cmd : ListCmd) → list_words cmd ≡ list_in connectors cmd
list-any connectors (ListCmd.Write header head name key body adj cond) =
    let c = cond-any connectors cond in
    let one = words_make [] header head name key body adj cond in
    let other = words_make connectors header head name key body adj cond in
    cc
list-any connectors (ListCmd.Update ref body adj version cond) =
    let c = cond-any connectors cond in
    let a = at-any connectors ref in
    let one = words_update [] ref body adj version cond in
    let other = words_update connectors ref body adj version cond in
    cc
list-any connectors (ListCmd.Read ref cond) =
    let c = cond-any connectors cond in
    let a = at-any connectors ref in
    let one = words_at [] (codes "READ") ref cond in
    let other = words_at connectors (codes "READ") ref cond in
    cc
list-any connectors (ListCmd.Move ref header head key version cond) =
    let c = cond-any connectors cond in
    let a = at-any connectors ref in
    let one = words_move [] ref header head key version cond in
    let other = words_move connectors ref header head key version cond in
    cc
list-any connectors (ListCmd.Delete ref version cond) =
    let c = cond-any connectors cond in
    let a = at-any connectors ref in
    let one = words_delete [] ref version cond in
    let other = words_delete connectors ref version cond in
    cc
list-any connectors cmd = refl

alter-any : (connectors : List Name16) (cmd : AlterCmd CacheCmd) → alter_words cmd ≡ alter_in connectors cmd
alter-any connectors (AlterCmd.Inner cmd) = cache-any connectors cmd
alter-any connectors cmd = refl

queue-any : (connectors : List Name16) (cmd : QueueCmd) → queue_words cmd ≡ queue_in connectors cmd
queue-any connectors (QueueCmd.List cmd) = list-any connectors cmd
queue-any connectors cmd = refl

-- ---- the words of a call

abbrev pub call_tokens : AnyAsk → List Token
call_tokens asked = act_tokens (class_in (Call asked)) (Call asked)

pub call-row : (asked : AnyAsk) → IsRow 6000 (call_tokens asked)
call-row (AnyAsk.Cache (Shell cmd)) = shell-row cmd
call-row (AnyAsk.Cache (Content cmd)) = alter-row (class_in (Call (AnyAsk.Cache (Content cmd)))) cmd
call-row (AnyAsk.List (Shell cmd)) = shell-row cmd
call-row (AnyAsk.List (Content cmd)) = queue-row cmd
call-row (AnyAsk.Lock (Shell cmd)) = shell-row cmd
call-row (AnyAsk.Lock (Content cmd)) = lock-row cmd

pub call-words : (connectors : List Name16) (asked : AnyAsk)
    → any_words connectors asked ≡ plain_words [] connectors (call_tokens asked)
call-words connectors (AnyAsk.Cache (Shell cmd)) = refl
call-words connectors (AnyAsk.Cache (Content cmd)) = alter-any connectors cmd
call-words connectors (AnyAsk.List (Shell cmd)) = refl
call-words connectors (AnyAsk.List (Content cmd)) = queue-any connectors cmd
call-words connectors (AnyAsk.Lock (Shell cmd)) = refl
call-words connectors (AnyAsk.Lock (Content cmd)) = refl

pub next-words : (connectors : List Name16) (kind : Kind)
    → any_words connectors (shell_ask kind Next) ≡ codes "NEXT" ∷ []
next-words connectors Kind.Cache = refl
next-words connectors (Kind.List headers locks refs) = refl
next-words connectors Kind.Lock = refl

module _ (script : Script) (on : StrNo) (keeps : KeepsLimits script) (by : ConnId) (text : List ℕ)
    (asked : AnyAsk) where
  pub call-good : MakesCommand script on by text asked → AreGood (any_words script.connectors asked)
  call-good (inl says) =
      let declared = declared_in script in
      let given = says.0.given in
      let bounds = words-within _ _ _ _ says.0.spelled in
      let front = within-front declared (act_tokens given (Call asked)) (retry_tokens 0) bounds in
      let within : AreWithin declared (call_tokens asked) =
      act-told declared by (kind_of script.structures on) given (Call asked) 0 says.0.allowed front in
      let row = call-row asked in
      let good = words-good declared (call_tokens asked) keeps.connectors row.plain within in
      subst AreGood (sym (call-words script.connectors asked)) good.0
  call-good (inr made) =
      let kind = kind_of script.structures on in
      let same : any_words script.connectors asked ≡ codes "NEXT" ∷ [] =
      ap (any_words script.connectors) made.2 ∙ next-words script.connectors kind in
      subst AreGood (sym same) (refl, refl, tt)

-- ---- entries

one-good : (word : List ℕ) → is_word word ≡ true → AreGood (word ∷ [])
one-good word h = are-good (word ∷ []) (and_from (is_word word) true h refl)

good-append : (xs ys : List (List ℕ)) → AreGood xs → AreGood ys → AreGood (xs ++ ys)
good-append [] ys h k = k
good-append (x ∷ xs) ys h k = (h.0, h.1, good-append xs ys h.2 k)

pub mark-in : {R : Type 0} (connectors : List Name16) (In : R → Type 0) (r : Reply R) → IsMarkReply connectors r
    → IsReply connectors In r
mark-in {R} connectors In (reply.Shell (shell.Simplex cf)) h = h
mark-in {R} connectors In (reply.Shell (shell.Stopped number)) h = h
mark-in {R} connectors In (reply.Shell shell.FailedNow) h = h
mark-in {R} connectors In r h = absurd h

module _ {C R : Type 0} (of : Ask C → AnyAsk) (cmd_words : Script → C → List (List ℕ))
    (answer_words : Script → R → List (List ℕ)) (answers : List Name16 → Answers R) (In : List Name16 → R → Type 0)
    (is : IsKind of cmd_words answer_words answers In) (script : Script) (on : StrNo) (keeps : KeepsLimits script) where
  replies-good : (vary : Bool) (r : Reply R) → IsReply script.connectors (In script.connectors) r
      → AreGood (lines.reply_words answer_words script vary r)
  replies-good vary r h =
      let good = reply-good script.connectors (answers script.connectors) (In script.connectors) vary Common
      (is.reads script.connectors keeps.connectors vary Common) r h in
      subst AreGood (replies-same of cmd_words answer_words answers In is script on keeps vary r) (are-good _ good)

  line-good : (n : ℕ) (done : List (List ℕ)) (told : List (List ℕ)) → n < 2 ^ 32 → AreGood done → AreGood told
      → AreGood (decimal n ∷ done ++ codes "->" ∷ told)
  line-good n done told small h k =
      let number = one-good (decimal n) (number-word n (omega (arith, small))) in
      (number.0, number.1, good-append done (codes "->" ∷ told) h (refl, refl, k))

  -- an entry in range prints as a line without a feed
  pub entry-clear : (entry : Entry C R) → IsEntry of In script on entry
      → list_all clear (entry_line cmd_words answer_words script entry) ≡ true
  entry-clear entry h = by_what entry.what refl h.1
    where
      whole_line : AreGood (lines.what_words cmd_words script entry.by entry.what)
          → AreGood (lines.reply_words answer_words script (is_of_vary entry.what) entry.reply)
          → list_all clear (entry_line cmd_words answer_words script entry) ≡ true
      whole_line done good =
          line-clear (decimal entry.no ∷ lines.what_words cmd_words script entry.by entry.what
          ++ codes "->" ∷ lines.reply_words answer_words script (is_of_vary entry.what) entry.reply)
          (line-good entry.no (lines.what_words cmd_words script entry.by entry.what)
          (lines.reply_words answer_words script (is_of_vary entry.what) entry.reply) h.0 done good)

      by_what : (w : What C) → entry.what ≡ w → IsWhat of In script on entry.by entry.reply w
          → list_all clear (entry_line cmd_words answer_words script entry) ≡ true
      by_what (what.Call asked) e k =
          let who = caller-said script.connectors entry.by.0 keeps.connectors k.0 in
          let said = one-good (caller_name script.connectors entry.by.0) who in
          let call = subst AreGood (is.asks script asked) (call-good script on keeps entry.by k.1.0 (of asked) k.1.1) in
          let good = replies-good (is_of_vary entry.what) entry.reply k.2 in
          let done : AreGood (lines.what_words cmd_words script entry.by entry.what) =
          subst (λ (w : What C). AreGood (lines.what_words cmd_words script entry.by w)) (sym e)
          (said.0, said.1, call) in
          whole_line done good
      by_what (what.Lost cf) e k =
          let facility = one-good (facility_word cf) (facility-word cf (grind (arith, IsFacility))) in
          let good = replies-good (is_of_vary entry.what) entry.reply
          (mark-in script.connectors (In script.connectors) entry.reply k.2) in
          let done : AreGood (lines.what_words cmd_words script entry.by entry.what) =
          subst (λ (w : What C). AreGood (lines.what_words cmd_words script entry.by w)) (sym e)
          (refl, refl, (refl, refl, facility)) in
          whole_line done good
