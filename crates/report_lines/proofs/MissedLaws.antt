-- No entry in range is missed: its line is cut into its parts, and these make an entry.
use Rattle.std.proofs.Common.{◌≡◌, ℕ, ◌<◌, ◌≤◌, ◌-◌, ◌^◌, ◌==◌, Bool, true, false, not, List, [], ◌∷◌, ◌++◌, Option, Some, None, option_map, zero, suc, length, get_or, codes, decimal, refl, sym, ap, ◌∙◌, arith, subst, IsSome, IfNone, IfSome, IfOk, Result}
use Rattle.std.specs.List.{list_all, before_first, after_first}
use Rattle.std.proofs.lemmas.Bool.{and_parts, false≢true}
use Rattle.std.proofs.lemmas.List.{append-nil}
use Rattle.std.proofs.lemmas.Bool.Decides.{nat_tests}
use Rattle.cf_types.specs.Forms.{IsFacility}
use Rattle.cf_types.specs.declared.names.Name16.{Name16}
use Rattle.cf_types.specs.declared.numbers.CfId.{CfId}
use Rattle.cf_types.specs.declared.numbers.ConnId.{ConnId}
use Rattle.cf_types.specs.declared.numbers.StrNo.{StrNo}
use Rattle.cf_types.specs.declared.alter_commands.AlterCmd.{AlterCmd}
use Rattle.cf_types.specs.declared.cache_commands.CacheCmd.{CacheCmd}
use Rattle.cf_types.specs.declared.list_commands.ListCmd.{ListCmd}
use Rattle.cf_types.specs.declared.list_commands.QueueCmd.{QueueCmd}
use Rattle.cf_types.specs.declared.lock_commands.LockCmd.{LockCmd}
use Rattle.cf_types.specs.declared.shell_commands.ShellCmd.{ShellCmd}
use Rattle.cf_types.specs.declared.shell_commands.ShellReply.{ShellReply}
use Rattle.cf_types.specs.declared.shell_commands.ShellReply.TheVariants as shell
use Rattle.engine_api.specs.declared.asks.Ask.{Ask}
use Rattle.engine_api.specs.declared.asks.Ask.TheVariants.{Shell, Content}
use Rattle.engine_api.specs.declared.asks.Reply.{Reply}
use Rattle.engine_api.specs.declared.asks.Reply.TheVariants as reply
use Rattle.engine_api.specs.declared.asks.What.{What}
use Rattle.engine_api.specs.declared.asks.What.TheVariants as what
use Rattle.engine_api.specs.declared.histories.Entry.{Entry}
use Rattle.engine_api.specs.LinkAsks.{operator}
use Rattle.plex_spell.specs.Words.{same_word, is_nonempty, line_of, tail_of}
use Rattle.plex_spell.specs.Places.{stands_in, number_of, ◌>>=◌}
use Rattle.plex_spell.specs.Tokens.{facility_of, is_name, name_word}
use Rattle.plex_spell.specs.declared.rigour.Rigour.TheVariants.{Names}
use Rattle.plex_spell.proofs.Choices.{not_some, word-same, same_word-of}
use Rattle.plex_spell.proofs.CutLaws.{Parts, parts-IsCut}
use Rattle.plex_plain.specs.Naming.{caller_name, facility_word}
use Rattle.plex_plain.specs.PlainWords.{shell_words, cache_words, list_words, alter_words, queue_words, lock_words}
use Rattle.plex_plain.specs.Ranges.{AreNames}
use Rattle.plex_plain.proofs.Places.{caller-word}
use Rattle.plex_plain.proofs.Tests.{all-append, all-weaker}
use Rattle.plex_script.specs.declared.scripts.AnyAsk.{AnyAsk}
use Rattle.plex_script.specs.declared.scripts.Script.{Script}
use Rattle.plex_script.specs.Causes.{caller_of}
use Rattle.plex_script.specs.Commands.{MakesCommand}
use Rattle.plex_script.specs.Limits.{KeepsLimits}
use Rattle.plex_report.specs.CommandWords.{ask_words}
use Rattle.plex_report.specs.Lines as lines
use Rattle.plex_report.specs.Lines.{entry_line, is_of_vary}
use Rattle.line_rows.specs.Rows.{is_plain, is_word}
use Rattle.line_rows.proofs.SingleLaws.{facility-is, connector-is}
use Rattle.line_rows.proofs.Words.{caller-said}
use Rattle.reply_rows.specs.Answers.{Answers}
use Rattle.reply_rows.specs.declared.sides.Side.{Side}
use Rattle.reply_rows.specs.declared.sides.Side.TheVariants.{Common}
use Rattle.reply_rows.specs.Replies.{reply_at, IsReply, IsNamed}
use Rattle.reply_rows.specs.Replies as rows
use Rattle.reply_rows.specs.Sides.{asked_side}
use Rattle.report_lines.specs.Entries.{is_free, IsCutLine, any_words, StandsAs, is_loss, loss_alone, call_entry, mark_entry}
use Rattle.report_lines.specs.Kinds.{has_words, IsKind}
use Rattle.report_lines.specs.Parts.{reply_value}
use Rattle.report_lines.specs.Readable.{IsEntry, IsWhat, IsLossReply, IsMarkReply}
use Rattle.report_lines.proofs.PartLaws.{split, same_arrow, word-free}
use Rattle.report_lines.proofs.ReplyLines.{reply-good, reply-told}
use Rattle.report_lines.proofs.EntryLaws.{behind-blank, entry-told, if_ok_more, on_side, replies-same, replies-some}
use Rattle.report_lines.proofs.CallLaws.{mark-in}
use Rattle.report_lines.proofs.MadeLaws.{made-plainly, one-made}
use Rattle.report_lines.proofs.KindLaws.{some_of}

-- ---- a line is cut in one way

pub one_cut : (line : List ℕ) (n m : ℕ) (who done told who2 done2 told2 : List ℕ)
    → IsCutLine line n who done told → IsCutLine line m who2 done2 told2
    → (n ≡ m) × (who ≡ who2) × (done ≡ done2) × (told ≡ told2)
one_cut line n m who done told who2 done2 told2 one two =
    let s = split line n who done told one in
    let t = split line m who2 done2 told2 two in
    let same = same_arrow line m who2 done2 told2 two s.front told (s.arrow, one.no_arrow) in
    let digits : decimal n ≡ decimal m = sym s.first.before_is
    ∙ ap (λ (f : List ℕ). before_first (λ b. b == 32) f) same.0 ∙ t.first.before_is in
    let rest : s.rest ≡ t.rest = sym s.first.after_is
    ∙ ap (λ (f : List ℕ). after_first (λ b. b == 32) f) same.0 ∙ t.first.after_is in
    let who_is : who ≡ who2 = sym s.second.before_is
    ∙ ap (λ (f : List ℕ). before_first (λ b. b == 32) f) rest ∙ t.second.before_is in
    let done_is : done ≡ done2 = sym s.second.after_is
    ∙ ap (λ (f : List ℕ). after_first (λ b. b == 32) f) rest ∙ t.second.after_is in
    let number : Some n ≡ Some m =
    sym s.numeral ∙ ap (number_of Names 0 4294967295) digits ∙ t.numeral in
    (cc, who_is, done_is, same.1)

-- ---- callers are read back

not_reserved : (word : List ℕ) → is_name word ≡ true
    → (same_word word (codes "OP") ≡ false) × (same_word word (codes "SYS") ≡ false)
not_reserved word named = (
  other (codes "OP") (same_word word (codes "OP")) refl (λ same. grind (arith, and_parts)),
  other (codes "SYS") (same_word word (codes "SYS")) refl (λ same. grind (arith, and_parts)),
)
  where
    other : (w : List ℕ) (b : Bool) → same_word word w ≡ b → (word ≡ w → ⊥) → b ≡ false
    other w false e apart = refl
    other w true e apart = absurd (apart (word-same word w e))

no_name : Name16
no_name = record { 0 = [] }

connector-own : (connectors : List Name16) (n : ℕ) → AreNames connectors → suc n ≤ length connectors
    → (same_word (caller_name connectors (suc n)) (codes "OP") ≡ false)
    × (same_word (caller_name connectors (suc n)) (codes "SYS") ≡ false)
connector-own connectors n names most =
    let name = get_or connectors (suc n - 1) no_name in
    let is = caller-word connectors (suc n) no_name (omega arith) most in
    let named = (names.0 (suc n - 1) no_name (omega (arith, most))).1 in
    let own = not_reserved (name_word name) named in
    (rw is own.0, rw is own.1)

pub caller-back : (connectors : List Name16) (n : ℕ) → AreNames connectors → n ≤ length connectors
    → caller_of connectors (caller_name connectors n) ≡ (let by : ConnId = record { 0 = n } in Some by)
caller-back connectors zero names most = refl
caller-back connectors (suc n) names most =
    let by : ConnId = record { 0 = suc n } in
    let own = (connector-own connectors n names most).0 in
    rw own ((connector-is connectors names).back by (omega arith, most))

pub caller-no_system : (connectors : List Name16) (n : ℕ) → AreNames connectors → n ≤ length connectors
    → same_word (caller_name connectors n) (codes "SYS") ≡ false
caller-no_system connectors zero names most = refl
caller-no_system connectors (suc n) names most = (connector-own connectors n names most).1

-- ---- a facility is read back

module _ (done : List ℕ) (cf : CfId) (facility : IsFacility cf) (is : done ≡ codes "LOST " ++ facility_word cf) where
  lost-cut : Parts 32 done (codes "LOST") (facility_word cf)
  lost-cut = parts-IsCut 32 done (codes "LOST") (facility_word cf) (record { whole = is; first = refl })

  pub lost_blank : stands_in 32 done ≡ false → ⊥
  lost_blank none = false≢true (sym none ∙ lost-cut.stands)

  pub lost_word : (word : List ℕ) → word ≡ before_first (λ b. b == 32) done → same_word word (codes "LOST") ≡ false → ⊥
  lost_word word cut none = false≢true (sym none ∙ same_word-of word (codes "LOST") (cut ∙ lost-cut.before_is))

  pub lost_number : (rest : List ℕ) → rest ≡ after_first (λ b. b == 32) done → None ≡ facility_of rest → ⊥
  lost_number rest cut none =
      not_some cf (none ∙ ap facility_of (cut ∙ lost-cut.after_is) ∙ facility-is.back cf facility)

pub same_facility : (one other : CfId) → IsFacility one → IsFacility other
    → codes "LOST " ++ facility_word one ≡ codes "LOST " ++ facility_word other → one ≡ other
same_facility one other h k e =
    let cut = lost-cut (codes "LOST " ++ facility_word one) one h refl in
    let also = lost-cut (codes "LOST " ++ facility_word one) other k e in
    let words : facility_word one ≡ facility_word other = sym cut.after_is ∙ also.after_is in
    let both : Some one ≡ Some other = sym (facility-is.back one h) ∙ ap facility_of words ∙ facility-is.back other k in
    cc

-- ---- no arrow stands in words

not_arrow : (b : ℕ) → is_plain b ≡ true → not (b == 62) ≡ true
not_arrow b h = grind (arith, nat_tests, and_parts)

arrow-free : (word : List ℕ) → is_word word ≡ true → is_free 62 word ≡ true
arrow-free word h = all-weaker is_plain (λ b. not (b == 62)) not_arrow word
    (and_parts (is_nonempty word) (list_all is_plain word) h).1

tail-free : (words : List (List ℕ)) → list_all is_word words ≡ true → is_free 62 (tail_of words) ≡ true
tail-free [] h = refl
tail-free (word ∷ words) h =
    let parts = and_parts (is_word word) (list_all is_word words) h in
    all-append (λ b. not (b == 62)) (32 ∷ word) (tail_of words) (arrow-free word parts.0) (tail-free words parts.1)

pub line-free : (words : List (List ℕ)) → list_all is_word words ≡ true → is_free 62 (line_of words) ≡ true
line-free [] h = refl
line-free (word ∷ words) h =
    let parts = and_parts (is_word word) (list_all is_word words) h in
    all-append (λ b. not (b == 62)) word (tail_of words) (arrow-free word parts.0) (tail-free words parts.1)

-- ---- each command has a word

shell-verb : (connectors : List Name16) (cmd : ShellCmd) → has_words (shell_words connectors cmd) ≡ true
shell-verb connectors ShellCmd.Next = refl
shell-verb connectors cmd = refl

cache-verb : (cmd : CacheCmd) → has_words (cache_words cmd) ≡ true
cache-verb CacheCmd.RegList = refl
cache-verb cmd = refl

list-verb : (cmd : ListCmd) → has_words (list_words cmd) ≡ true
list-verb (ListCmd.Read ref cond) = refl
list-verb cmd = refl

alter-verb : (cmd : AlterCmd CacheCmd) → has_words (alter_words cmd) ≡ true
alter-verb (AlterCmd.Inner cmd) = cache-verb cmd
alter-verb AlterCmd.Stop = refl
alter-verb cmd = refl

queue-verb : (cmd : QueueCmd) → has_words (queue_words cmd) ≡ true
queue-verb (QueueCmd.List cmd) = list-verb cmd
queue-verb QueueCmd.Deq = refl
queue-verb cmd = refl

lock-verb : (connectors : List Name16) (cmd : LockCmd) → has_words (lock_words connectors cmd) ≡ true
lock-verb connectors (LockCmd.Release resource) = refl
lock-verb connectors cmd = refl

pub call-verb : (connectors : List Name16) (asked : AnyAsk) → has_words (any_words connectors asked) ≡ true
call-verb connectors (AnyAsk.Cache (Shell cmd)) = shell-verb connectors cmd
call-verb connectors (AnyAsk.Cache (Content cmd)) = alter-verb cmd
call-verb connectors (AnyAsk.List (Shell cmd)) = shell-verb connectors cmd
call-verb connectors (AnyAsk.List (Content cmd)) = queue-verb cmd
call-verb connectors (AnyAsk.Lock (Shell cmd)) = shell-verb connectors cmd
call-verb connectors (AnyAsk.Lock (Content cmd)) = lock-verb connectors cmd

-- ---- what is told of a loss

loss-is : (connectors : List Name16) (answer : ShellReply) → IsLossReply connectors answer → is_loss answer ≡ true
loss-is connectors (shell.Simplex cf) h = refl
loss-is connectors (shell.Stopped number) h = refl
loss-is connectors shell.FailedNow h = refl
loss-is connectors answer h = absurd h

loss-alone : {R : Type 0} (connectors : List Name16) (r : Reply R) → IsMarkReply connectors r → loss_alone r ≡ Some r
loss-alone {R} connectors (reply.Shell answer) h = rw (loss-is connectors answer h) refl
loss-alone {R} connectors (reply.Content answer) h = absurd h
loss-alone {R} connectors (reply.Refused refusal) h = absurd h

mark-named : {R : Type 0} (connectors : List Name16) (answers : Answers R) (r : Reply R) → IsMarkReply connectors r
    → IsNamed connectors answers false Common r
mark-named {R} connectors answers (reply.Shell answer) h = tt
mark-named {R} connectors answers (reply.Content answer) h = absurd h
mark-named {R} connectors answers (reply.Refused refusal) h = tt

none-mapped : {X Y : Type 0} (f : X → Y) (o : Option X) → None ≡ option_map f o → IsSome o → ⊥
none-mapped f None none some = absurd (cc)
none-mapped f (Some x) none some = absurd (cc)

pub when_none : {X : Type 0} (o : Option X) (P : Type 0) → (None ≡ o → P) → IfNone o P
when_none None P f = f refl
when_none (Some x) P f = tt

-- ---- the lines of entries in range

module _ {C R : Type 0} (of : Ask C → AnyAsk) (cmd_words : Script → C → List (List ℕ))
    (answer_words : Script → R → List (List ℕ)) (answers : List Name16 → Answers R) (In : List Name16 → R → Type 0)
    (is : IsKind of cmd_words answer_words answers In) (script : Script) (on : StrNo) (keeps : KeepsLimits script)
    (low : on.0 < length script.structures) where
  -- a line of a call, with what a reader makes of its parts
  pub record IsCallLine (line : List ℕ) : Type 0 where
    pub number : ℕ
    pub by : ConnId
    pub asked : Ask C
    pub text : List ℕ
    pub done : List ℕ
    pub told : List ℕ
    pub cut : IsCutLine line number (caller_name script.connectors by.0) done told
    pub few : by.0 ≤ length script.connectors
    pub makes : MakesCommand script on by text (of asked)
    pub stands : StandsAs script.connectors (of asked) done
    pub read : IsSome (reply_value script.connectors (answers script.connectors)
        (is_of_vary (let w : What C = what.Call asked in w)) (asked_side (of asked)) told)

  -- a line of a mark
  pub record IsMarkLine (line : List ℕ) : Type 0 where
    pub number : ℕ
    pub cf : CfId
    pub told : List ℕ
    pub cut : IsCutLine line number (codes "SYS") (codes "LOST " ++ facility_word cf) told
    pub facility : IsFacility cf
    pub read : IsSome (reply_value script.connectors (answers script.connectors) false Common told >>= loss_alone)

  abbrev words_told : Bool → Reply R → List (List ℕ)
  words_told vary r = lines.reply_words answer_words script vary r

  -- no arrow stands in the words of a reply
  told-free : (vary : Bool) (r : Reply R) → IsReply script.connectors (In script.connectors) r
      → is_free 62 (line_of (words_told vary r)) ≡ true
  told-free vary r h =
      let same = replies-same of cmd_words answer_words answers In is script on keeps vary r in
      let good = reply-good script.connectors (answers script.connectors) (In script.connectors) vary Common
      (is.reads script.connectors keeps.connectors vary Common) r h in
      line-free (words_told vary r) (sym (ap (list_all is_word) same) ∙ good)

  told-read : (vary : Bool) (side : Side) (r : Reply R) → IsReply script.connectors (In script.connectors) r
      → reply_value script.connectors (answers script.connectors) vary side (line_of (words_told vary r))
      ≡ reply_at script.connectors (answers script.connectors) vary side
      (rows.reply_words script.connectors (answers script.connectors) vary r)
  told-read vary side r h = reply-told script.connectors (answers script.connectors) (In script.connectors) vary side
      (is.reads script.connectors keeps.connectors vary side) (line_of (words_told vary r)) r h
      (ap line_of (replies-same of cmd_words answer_words answers In is script on keeps vary r))

  told-tail : (vary : Bool) (r : Reply R) → tail_of (words_told vary r) ≡ 32 ∷ line_of (words_told vary r)
  told-tail vary r = behind-blank (words_told vary r) (line_of (words_told vary r))
      (replies-some of cmd_words answer_words answers In is script on keeps vary r) refl

  call-line : (line : List ℕ) (n : ℕ) (by : ConnId) (asked : Ask C) (r : Reply R) → n < 2 ^ 32
      → IsWhat of In script on by r (what.Call asked)
      → line_of (decimal n ∷ lines.what_words cmd_words script by (let w : What C = what.Call asked in w)
      ++ codes "->" ∷ words_told (is_of_vary (let w : What C = what.Call asked in w)) r) ≡ line
      → IsCallLine line
  call-line line n by asked r small h printed =
      let vary = is_of_vary (let w : What C = what.Call asked in w) in
      let who = caller_name script.connectors by.0 in
      let done = line_of (ask_words cmd_words script asked) in
      let told = line_of (words_told vary r) in
      let some : has_words (ask_words cmd_words script asked) ≡ true =
      sym (ap has_words (is.asks script asked)) ∙ call-verb script.connectors (of asked) in
      let said = behind-blank (ask_words cmd_words script asked) done some refl in
      let whole = entry-told n who (ask_words cmd_words script asked) (words_told vary r) done told said
      (told-tail vary r) in
      record {
        number = n;
        by = by;
        asked = asked;
        text = h.1.0;
        done = done;
        told = told;
        cut = record {
          whole = sym printed ∙ whole;
          small = small;
          one_word = word-free who (caller-said script.connectors by.0 keeps.connectors h.0);
          no_arrow = told-free vary r h.2;
        };
        few = h.0;
        makes = h.1.1;
        stands = ap tail_of (is.asks script asked) ∙ said;
        read = subst (λ (o : Option (Reply R)). IsSome o) (sym (told-read vary (asked_side (of asked)) r h.2))
            ((is.reads script.connectors keeps.connectors vary (asked_side (of asked))).some r h.2);
      }

  mark-line : (line : List ℕ) (n : ℕ) (by : ConnId) (cf : CfId) (r : Reply R) → n < 2 ^ 32
      → IsWhat of In script on by r (what.Lost cf)
      → line_of (decimal n ∷ lines.what_words cmd_words script by (let w : What C = what.Lost cf in w)
      ++ codes "->" ∷ words_told false r) ≡ line
      → IsMarkLine line
  mark-line line n by cf r small h printed =
      let told = line_of (words_told false r) in
      let lost : List ℕ = codes "LOST " ++ facility_word cf in
      let words : List (List ℕ) = codes "LOST" ∷ facility_word cf ∷ [] in
      let said : tail_of words ≡ 32 ∷ lost =
      ap (λ (w : List ℕ). 32 ∷ codes "LOST " ++ w) (append-nil (facility_word cf)) in
      let whole = entry-told n (codes "SYS") words (words_told false r) lost told said (told-tail false r) in
      let in_r = mark-in script.connectors (In script.connectors) r h.2 in
      let read : reply_value script.connectors (answers script.connectors) false Common told ≡ Some r =
      told-read false Common r in_r ∙ (is.reads script.connectors keeps.connectors false Common).back r in_r
      (mark-named script.connectors (answers script.connectors) r h.2) in
      let alone : (reply_value script.connectors (answers script.connectors) false Common told >>= loss_alone)
      ≡ Some r =
      ap (λ (o : Option (Reply R)). o >>= loss_alone) read ∙ loss-alone script.connectors r h.2 in
      record {
        number = n;
        cf = cf;
        told = told;
        cut = record {
          whole = sym printed ∙ whole;
          small = small;
          one_word = refl;
          no_arrow = told-free false r in_r;
        };
        facility = h.1;
        read = rw alone refl;
      }

  abbrev pub Unread : List ℕ → Type 0
  Unread line = (entry : Entry C R) → IsEntry of In script on entry
      → entry_line cmd_words answer_words script entry ≡ line → ⊥

  -- what is no line of a call and none of a mark is the line of no entry in range
  pub unread : (line : List ℕ) → (IsCallLine line → ⊥) → (IsMarkLine line → ⊥) → Unread line
  unread line call mark entry h printed = by_what entry.what h.1 printed
    where
      by_what : (w : What C) → IsWhat of In script on entry.by entry.reply w
          → line_of (decimal entry.no ∷ lines.what_words cmd_words script entry.by w
          ++ codes "->" ∷ words_told (is_of_vary w) entry.reply) ≡ line
          → ⊥
      by_what (what.Call asked) k e = call (call-line line entry.no entry.by asked entry.reply h.0 k e)
      by_what (what.Lost cf) k e = mark (mark-line line entry.no entry.by cf entry.reply h.0 k e)

  -- ---- what a reader finds in a line that is cut so

  pub no_parts : (line : List ℕ) → ((n : ℕ) (who done told : List ℕ) → IsCutLine line n who done told → ⊥)
      → Unread line
  no_parts line none = unread line (λ l. none l.number (caller_name script.connectors l.by.0) l.done l.told l.cut)
      (λ l. none l.number (codes "SYS") (codes "LOST " ++ facility_word l.cf) l.told l.cut)

  module _ (line : List ℕ) (n : ℕ) (who done told : List ℕ) (cut : IsCutLine line n who done told)
      (connectors : List Name16) (named : connectors ≡ script.connectors) where
    call-cut : (l : IsCallLine line)
        → (n ≡ l.number) × (who ≡ caller_name script.connectors l.by.0) × (done ≡ l.done) × (told ≡ l.told)
    call-cut l =
        one_cut line n l.number who done told (caller_name script.connectors l.by.0) l.done l.told cut l.cut

    mark-cut : (l : IsMarkLine line)
        → (n ≡ l.number) × (who ≡ codes "SYS") × (done ≡ codes "LOST " ++ facility_word l.cf) × (told ≡ l.told)
    mark-cut l =
        one_cut line n l.number who done told (codes "SYS") (codes "LOST " ++ facility_word l.cf) l.told cut l.cut

    -- ---- behind SYS

    module _ (system : true ≡ same_word who (codes "SYS")) where
      no-call : IsCallLine line → ⊥
      no-call l =
          let same = call-cut l in
          false≢true (sym (caller-no_system script.connectors l.by.0 keeps.connectors l.few)
          ∙ sym (ap (λ (w : List ℕ). same_word w (codes "SYS")) same.1) ∙ sym system)

      pub no_facility : ((cf : CfId) → IsFacility cf → done ≡ codes "LOST " ++ facility_word cf → ⊥) → Unread line
      no_facility none = unread line no-call (λ l.
          let same = mark-cut l in
          none l.cf l.facility same.2)

      pub no_loss : {E : Type 0} (cf : CfId) (r : Result (Option (Entry C R)) E)
          → IfOk r (λ x. x ≡ mark_entry connectors (answers connectors) n cf told)
          → IfOk r (λ x. IfNone x (Unread line))
      no_loss {E} cf r h =
          if_ok_more r (λ x. x ≡ mark_entry connectors (answers connectors) n cf told) (λ x. IfNone x (Unread line))
          (λ x made. when_none x (Unread line) (λ none. unread line no-call (λ l.
          let same = mark-cut l in
          let make : Reply R → Entry C R =
          λ answer. (record { no = n; by = operator; what = what.Lost cf; reply = answer }) in
          let value = reply_value script.connectors (answers script.connectors) false Common told >>= loss_alone in
          let read : IsSome value = subst (λ (t : List ℕ). IsSome (reply_value script.connectors
          (answers script.connectors) false Common t >>= loss_alone)) (sym same.3) l.read in
          let here : None ≡ option_map make value = subst (λ (names : List Name16).
          None ≡ mark_entry {C = C} names (answers names) n cf told) named (none ∙ made) in
          none-mapped make value here read))) h

    -- ---- behind a caller's name

    module _ (other : same_word who (codes "SYS") ≡ false) where
      no-mark : IsMarkLine line → ⊥
      no-mark l =
          let same = mark-cut l in
          false≢true (sym other ∙ ap (λ (w : List ℕ). same_word w (codes "SYS")) same.1)

      -- what the caller's name of such a line says
      by-read : (l : IsCallLine line) → caller_of connectors who ≡ Some l.by
      by-read l =
          let same = call-cut l in
          ap (λ (names : List Name16). caller_of names who) named
          ∙ ap (caller_of script.connectors) same.1 ∙ caller-back script.connectors l.by.0 keeps.connectors l.few

      pub no_caller : None ≡ caller_of connectors who → Unread line
      no_caller none = unread line (λ l. not_some l.by (none ∙ by-read l)) no-mark

      module _ (by : ConnId) (caller : Some by ≡ caller_of connectors who) where
        record IsDone (l : IsCallLine line) : Type 0 where
          makes : MakesCommand script on by l.text (of l.asked)
          few : by.0 ≤ length script.connectors
          stands : StandsAs script.connectors (of l.asked) done
          read : IsSome (reply_value script.connectors (answers script.connectors)
              (is_of_vary (let w : What C = what.Call l.asked in w)) (asked_side (of l.asked)) told)

        is-done : (l : IsCallLine line) → IsDone l
        is-done l =
            let same = call-cut l in
            let both : Some l.by ≡ Some by = sym (by-read l) ∙ sym caller in
            let by_is : l.by ≡ by = cc in
            record {
              makes = subst (λ (b : ConnId). MakesCommand script on b l.text (of l.asked)) by_is l.makes;
              few = subst (λ (b : ConnId). b.0 ≤ length script.connectors) by_is l.few;
              stands = subst (λ (d : List ℕ). StandsAs script.connectors (of l.asked) d) (sym same.2) l.stands;
              read = subst (λ (t : List ℕ). IsSome (reply_value script.connectors (answers script.connectors)
                  (is_of_vary (let w : What C = what.Call l.asked in w)) (asked_side (of l.asked)) t))
                  (sym same.3) l.read;
            }

        abbrev Made : AnyAsk → Type 0
        Made asked = MakesCommand script on by done asked × StandsAs script.connectors asked done

        pub no_command : (o : Option AnyAsk) → o ≡ None → IfNone o ((asked : AnyAsk) (other : List ℕ)
            → MakesCommand script on by other asked → StandsAs script.connectors asked done → ⊥) → Unread line
        no_command None e none = unread line (λ l.
            let d = is-done l in
            none (of l.asked) l.text d.makes d.stands) no-mark
        no_command (Some call) e none = absurd (cc)

        -- the call that was read is the line's
        same-call : (call : AnyAsk) → Made call → (l : IsCallLine line) → call ≡ of l.asked
        same-call call made l =
            let d = is-done l in
            one-made script on by done call (of l.asked) made.0
            (made-plainly script on keeps low by d.few done l.text (of l.asked) d.makes d.stands)

        module _ (o : Option AnyAsk) (call : AnyAsk) (found : IfSome o Made) (is_call : o ≡ Some call) where
          made : Made call
          made = some_of Made o call found is_call

          pub no_kind : ((asked : Ask C) → call ≡ of asked → ⊥) → Unread line
          no_kind none = unread line (λ l. none l.asked (same-call call made l)) no-mark

          pub no_reply : {E : Type 0} (side : Side) (asked : Ask C) (r : Result (Option (Entry C R)) E)
              → side ≡ asked_side call → call ≡ of asked
              → IfOk r (λ x. x ≡ call_entry connectors (answers connectors) n by side asked told)
              → IfOk r (λ x. IfNone x (Unread line))
          no_reply {E} side asked r is_side is_asked h =
              if_ok_more r (λ x. x ≡ call_entry connectors (answers connectors) n by (asked_side (of asked)) asked told)
              (λ x. IfNone x (Unread line)) (λ x given. when_none x (Unread line) (λ none. unread line (λ l.
              let same : l.asked ≡ asked = is.one l.asked asked (sym (same-call call made l) ∙ is_asked) in
              let make : Reply R → Entry C R =
              λ answer. (record { no = n; by = by; what = what.Call asked; reply = answer }) in
              let value = reply_value script.connectors (answers script.connectors)
              (is_of_vary (let w : What C = what.Call asked in w)) (asked_side (of asked)) told in
              let read : IsSome value = subst (λ (a : Ask C). IsSome (reply_value script.connectors
              (answers script.connectors) (is_of_vary (let w : What C = what.Call a in w)) (asked_side (of a)) told))
              same
              (is-done l).read in
              let here : None ≡ option_map make value = subst (λ (names : List Name16).
              None ≡ call_entry names (answers names) n by (asked_side (of asked)) asked told) named (none ∙ given) in
              none-mapped make value here read) no-mark))
              (on_side connectors (answers connectors) n by side call (of asked) asked told r is_side is_asked h)
