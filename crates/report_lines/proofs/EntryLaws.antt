-- The parts of an entry's line.
use Rattle.std.proofs.Common.{◌≡◌, ℕ, ◌≤◌, Bool, true, false, List, [], ◌∷◌, ◌++◌, Option, Some, None, length, refl, sym, ap, ◌∙◌, arith, All}
use Rattle.std.proofs.lemmas.List.Elements.{All-nil, All-cons, All-tail}
use Rattle.plex_spell.specs.Words.{same_word, tail_of}
use Rattle.plex_spell.proofs.Choices.{word-same}
use Rattle.plex_script.specs.declared.scripts.AnyAsk.{AnyAsk}
use Rattle.plex_script.specs.declared.scripts.Line.{Line}
use Rattle.plex_script.specs.declared.scripts.Script.{Script}
use Rattle.plex_script.specs.Scripts.{line_number}
use Rattle.plex_script.specs.Limits.{KeepsLimits}
use Rattle.plex_script.specs.Printed.{numbered_behind, script_text, with_line_numbers}
use Rattle.plex_script.specs.WellFormed.{IsWellFormed, IsLineOf}
use Rattle.plex_script.proofs.FormedLines.{script-formed}
use Rattle.plex_script.proofs.ReadBack.{script-reads}
use Rattle.std.proofs.Common.{◌==◌, ◌+◌, codes, decimal, Result, Ok, Err, IfOk, IfSome, subst, append_assoc}
use Rattle.std.specs.List.{before_first, after_first}
use Rattle.std.proofs.lemmas.Grind.{flat_map-append}
use Rattle.std.proofs.lemmas.List.{append-nil}
use Rattle.cf_types.specs.Forms.{IsFacility}
use Rattle.cf_types.specs.declared.names.Name16.{Name16}
use Rattle.cf_types.specs.declared.numbers.CfId.{CfId}
use Rattle.cf_types.specs.declared.numbers.ConnId.{ConnId}
use Rattle.cf_types.specs.declared.numbers.StrNo.{StrNo}
use Rattle.cf_types.specs.declared.shell_commands.ShellReply.{ShellReply}
use Rattle.cf_types.specs.declared.shell_commands.ShellReply.TheVariants as shell
use Rattle.engine_api.specs.declared.asks.Ask.{Ask}
use Rattle.engine_api.specs.declared.asks.Reply.{Reply}
use Rattle.engine_api.specs.declared.asks.Reply.TheVariants as reply
use Rattle.engine_api.specs.declared.asks.What.{What}
use Rattle.engine_api.specs.declared.asks.What.TheVariants as what
use Rattle.engine_api.specs.declared.histories.Entry.{Entry}
use Rattle.engine_api.specs.LinkAsks.{operator}
use Rattle.plex_spell.specs.Words.{line_of}
use Rattle.plex_spell.specs.Places.{stands_in, number_of, ◌>>=◌}
use Rattle.plex_spell.specs.Tokens.{facility_of, connector_of}
use Rattle.plex_spell.specs.declared.rigour.Rigour.TheVariants.{Names}
use Rattle.plex_spell.proofs.Choices.{chosen, mapped, bound, not_some}
use Rattle.plex_spell.proofs.CutLaws.{IsCut-stands}
use Rattle.plex_plain.specs.Naming.{caller_name, facility_word}
use Rattle.plex_plain.specs.Ranges.{AreNames}
use Rattle.plex_plain.proofs.Within.{connector-bounds}
use Rattle.plex_script.specs.Causes.{caller_of}
use Rattle.plex_script.specs.Commands.{MakesCommand}
use Rattle.plex_report.specs.CommandWords.{ask_words}
use Rattle.plex_report.specs.Lines as lines
use Rattle.plex_report.specs.Lines.{entry_line, is_of_vary, ok_words}
use Rattle.plex_report.specs.ReplyWords.{shell_reply_words}
use Rattle.reply_rows.specs.Answers.{Answers}
use Rattle.line_rows.proofs.SingleLaws.{facility-is, connector-is}
use Rattle.reply_rows.specs.declared.sides.Side.{Side}
use Rattle.reply_rows.specs.declared.sides.Side.TheVariants.{Common}
use Rattle.reply_rows.specs.Replies as rows
use Rattle.reply_rows.specs.Replies.{IsRead, IsReply}
use Rattle.reply_rows.specs.Sides.{asked_side}
use Rattle.reply_rows.specs.Within.{IsShellReply}
use Rattle.reply_rows.proofs.PartLaws.{small-is}
use Rattle.reply_rows.proofs.Printed.{shell-same, refusal-same}
use Rattle.report_lines.specs.Entries.{is_free, IsCutLine, any_words, StandsAs, is_loss, loss_alone, call_entry, mark_entry}
use Rattle.report_lines.specs.Kinds.{has_words, IsKind}
use Rattle.report_lines.specs.Parts.{reply_value}
use Rattle.report_lines.specs.Readable.{IsEntry, IsLossReply, IsMarkReply}
use Rattle.report_lines.proofs.ReplyLines.{reply-sound}

-- ---- scripts that keep the limits are well formed

unnumbered : (script other : Script) (base : ℕ) (lines : List Line) → other.structures ≡ script.structures
    → other.connectors ≡ script.connectors → All (IsLineOf other) (numbered_behind base lines)
    → All (IsLineOf script) lines
unnumbered script other base [] s c h = All-nil (IsLineOf script)
unnumbered script other base (line ∷ lines) s c h =
    let numbered : Line = record line { at = line_number (base + 1) } in
    let first : IsLineOf other numbered = h 0 line (omega arith) in
    let here : IsLineOf script line = grind arith in
    All-cons (IsLineOf script) line lines here (unnumbered script other (base + 1) lines s c
    (All-tail (IsLineOf other) numbered (numbered_behind (base + 1) lines) h))

pub keeps_formed : (script : Script) → KeepsLimits script → IsWellFormed script
keeps_formed script h =
    let other = with_line_numbers script in
    let f = script-formed (script_text script) other (script-reads script h) in
    record {
      structures = h.few_structures;
      connectors = h.few_connectors;
      forms = f.forms;
      lines = unnumbered script other _ script.lines refl refl f.lines;
    }

-- ---- a call that stands there plainly

pub stands_plainly : (script : Script) (asked : AnyAsk) (text : List ℕ)
    → same_word (tail_of (any_words script.connectors asked)) (32 ∷ text) ≡ true
    → StandsAs script.connectors asked text
stands_plainly script asked text h = word-same (tail_of (any_words script.connectors asked)) (32 ∷ text) h

-- ---- the parts of a line

abbrev pub cut_line : ℕ → List ℕ → List ℕ → List ℕ → List ℕ
cut_line n who done told = decimal n ++ 32 ∷ (who ++ 32 ∷ (done ++ 32 ∷ 45 ∷ 62 ∷ 32 ∷ told))

pub parts_told : (line front told digits rest who done : List ℕ) (n : ℕ)
    → (line ≡ front ++ 32 ∷ 45 ∷ 62 ∷ 32 ∷ told) × (is_free 62 told ≡ true)
    → (stands_in 32 front ≡ true) × (digits ≡ before_first (λ b. b == 32) front)
    × (rest ≡ after_first (λ b. b == 32) front)
    → (stands_in 32 rest ≡ true) × (who ≡ before_first (λ b. b == 32) rest) × (done ≡ after_first (λ b. b == 32) rest)
    → Some n ≡ number_of Names 0 4294967295 digits → IsCutLine line n who done told
parts_told line front told digits rest who done n arrow first second read =
    let one = IsCut-stands 32 front first.0 in
    let two = IsCut-stands 32 rest second.0 in
    let numeral = small-is.forth digits n (sym read) in
    let front_is : front ≡ digits ++ 32 ∷ rest = rw (first.1, first.2) one.whole in
    let rest_is : rest ≡ who ++ 32 ∷ done = rw (second.1, second.2) two.whole in
    let end : List ℕ = 32 ∷ 45 ∷ 62 ∷ 32 ∷ told in
    let behind : rest ++ end ≡ who ++ 32 ∷ (done ++ end) =
    ap (λ (l : List ℕ). l ++ end) rest_is ∙ append_assoc who (32 ∷ done) end in
    let whole : front ++ end ≡ digits ++ 32 ∷ (rest ++ end) =
    ap (λ (l : List ℕ). l ++ end) front_is ∙ append_assoc digits (32 ∷ rest) end in
    let all : front ++ end ≡ digits ++ 32 ∷ (who ++ 32 ∷ (done ++ end)) =
    whole ∙ ap (λ (l : List ℕ). digits ++ 32 ∷ l) behind in
    record {
      whole = arrow.0 ∙ all ∙ ap (λ (d : List ℕ). d ++ 32 ∷ (who ++ 32 ∷ (done ++ end))) (sym numeral.0);
      small = omega (arith, numeral.1);
      one_word = rw second.1 two.first;
      no_arrow = arrow.1;
    }

-- ---- who

pub caller_bound : (connectors : List Name16) (who : List ℕ) (conn : ConnId)
    → connector_of connectors who ≡ Some conn → conn.0 ≤ length connectors
caller_bound connectors who conn h = (connector-bounds connectors who conn h).1

caller-told : (connectors : List Name16) (who : List ℕ) (by : ConnId) → AreNames connectors
    → caller_of connectors who ≡ Some by → (caller_name connectors by.0 ≡ who) × (by.0 ≤ length connectors)
caller-told connectors who by names h =
    chosen (same_word who (codes "OP")) (Some operator) (connector_of connectors who) by (λ is e.
    let same : operator ≡ by = cc in
    subst (λ (b : ConnId). (caller_name connectors b.0 ≡ who) × (b.0 ≤ length connectors)) same
    (sym (word-same who (codes "OP") is), omega arith)) (λ _ e.
    let f = (connector-is connectors names).forth who by e in
    (f.0, f.1.1)) h

-- ---- which facility

pub lost_told : (done word rest : List ℕ) (o : Option CfId)
    → (stands_in 32 done ≡ true) × (word ≡ before_first (λ b. b == 32) done)
    × (rest ≡ after_first (λ b. b == 32) done)
    → same_word word (codes "LOST") ≡ true → o ≡ facility_of rest
    → IfSome o (λ cf. (done ≡ codes "LOST " ++ facility_word cf) × IsFacility cf)
lost_told done word rest None parts lost read = tt
lost_told done word rest (Some cf) parts lost read =
    let f = facility-is.forth rest cf (sym read) in
    let cut = IsCut-stands 32 done parts.0 in
    let whole : done ≡ word ++ 32 ∷ rest = rw (parts.1, parts.2) cut.whole in
    let word_is : word ≡ codes "LOST" = word-same word (codes "LOST") lost in
    (whole ∙ ap (λ (w : List ℕ). w ++ 32 ∷ rest) word_is ∙ ap (λ (w : List ℕ). codes "LOST" ++ 32 ∷ w) (sym f.0), f.1)

-- ---- lines of words

pub behind-blank : (words : List (List ℕ)) (told : List ℕ) → has_words words ≡ true → line_of words ≡ told
    → tail_of words ≡ 32 ∷ told
behind-blank [] told some e = absurd (cc)
behind-blank (word ∷ words) told some e = ap (λ (l : List ℕ). 32 ∷ l) e

pub entry-told : (n : ℕ) (who : List ℕ) (xs ys : List (List ℕ)) (done told : List ℕ) → tail_of xs ≡ 32 ∷ done
    → tail_of ys ≡ 32 ∷ told → line_of (decimal n ∷ who ∷ xs ++ codes "->" ∷ ys) ≡ cut_line n who done told
entry-told n who xs ys done told h k =
    let behind : tail_of (xs ++ codes "->" ∷ ys) ≡ tail_of xs ++ tail_of (codes "->" ∷ ys) =
    flat_map-append (λ (word : List ℕ). 32 ∷ word) xs (codes "->" ∷ ys) in
    let both : tail_of (xs ++ codes "->" ∷ ys) ≡ 32 ∷ (done ++ 32 ∷ 45 ∷ 62 ∷ 32 ∷ told) =
    behind ∙ ap (λ (t : List ℕ). t ++ tail_of (codes "->" ∷ ys)) h
    ∙ ap (λ (t : List ℕ). (32 ∷ done) ++ 32 ∷ 45 ∷ 62 ∷ t) k in
    ap (λ (t : List ℕ). decimal n ++ 32 ∷ (who ++ t)) both

shell-some : (script : Script) (vary : Bool) (answer : ShellReply)
    → has_words (ok_words vary answer ++ shell_reply_words script answer) ≡ true
shell-some script true shell.Ok = refl
shell-some script true answer = refl
shell-some script false shell.Ok = refl
shell-some script false answer = refl

-- ---- what is told of a loss

loss-of : (connectors : List Name16) (answer : ShellReply) → is_loss answer ≡ true → IsShellReply connectors answer
    → IsLossReply connectors answer
loss-of connectors (shell.Simplex cf) is h = h
loss-of connectors (shell.Stopped number) is h = h
loss-of connectors shell.FailedNow is h = h
loss-of connectors answer is h = absurd (cc)

loss-told : {R : Type 0} (connectors : List Name16) (In : R → Type 0) (r told : Reply R) → loss_alone r ≡ Some told
    → IsReply connectors In r → (r ≡ told) × IsMarkReply connectors r
loss-told {R} connectors In (reply.Shell answer) told h in_r =
    let r : Reply R = reply.Shell answer in
    chosen (is_loss answer) (Some r) None told (λ is e.
    let same : r ≡ told = cc in
    (same, loss-of connectors answer is in_r)) (λ _ none. not_some told none) h
loss-told {R} connectors In (reply.Content answer) told h in_r = absurd (cc)
loss-told {R} connectors In (reply.Refused refusal) told h in_r = absurd (cc)

-- ---- entries

pub if_ok_more : {X E : Type 0} (r : Result X E) (P Q : X → Type 0) → ((x : X) → P x → Q x) → IfOk r P → IfOk r Q
if_ok_more {X} {E} (Ok x) P Q f h = f x h
if_ok_more {X} {E} (Err e) P Q f h = tt

-- the reply to a call is read on the side of its command
pub on_side : {C R E : Type 0} (connectors : List Name16) (answers : Answers R) (n : ℕ) (by : ConnId) (side : Side)
    (call other : AnyAsk) (asked : Ask C) (told : List ℕ) (r : Result (Option (Entry C R)) E) → side ≡ asked_side call
    → call ≡ other → IfOk r (λ x. x ≡ call_entry connectors answers n by side asked told)
    → IfOk r (λ x. x ≡ call_entry connectors answers n by (asked_side other) asked told)
on_side {C} {R} {E} connectors answers n by side call other asked told r is_side same h =
    subst (λ (s : Side). IfOk r (λ x. x ≡ call_entry connectors answers n by s asked told))
    (is_side ∙ ap asked_side same) h

module _ {C R : Type 0} (of : Ask C → AnyAsk) (cmd_words : Script → C → List (List ℕ))
    (answer_words : Script → R → List (List ℕ)) (answers : List Name16 → Answers R) (In : List Name16 → R → Type 0)
    (is : IsKind of cmd_words answer_words answers In) (script : Script) (on : StrNo) (keeps : KeepsLimits script) where
  pub replies-same : (vary : Bool) (r : Reply R) → rows.reply_words script.connectors (answers script.connectors) vary r
      ≡ lines.reply_words answer_words script vary r
  replies-same vary (reply.Shell answer) = shell-same script vary answer
  replies-same vary (reply.Content answer) = is.printed script answer
  replies-same vary (reply.Refused refusal) =
      ap (λ (ws : List (List ℕ)). codes "REFUSED" ∷ ws) (refusal-same script refusal)

  pub replies-some : (vary : Bool) (r : Reply R) → has_words (lines.reply_words answer_words script vary r) ≡ true
  replies-some vary (reply.Shell answer) = shell-some script vary answer
  replies-some vary (reply.Content answer) = is.some script answer
  replies-some vary (reply.Refused refusal) = refl

  -- the reply stands behind the arrow so
  pub record IsTold (vary : Bool) (told : List ℕ) (r : Reply R) : Type 0 where
    pub stands : tail_of (lines.reply_words answer_words script vary r) ≡ 32 ∷ told
    pub within : IsReply script.connectors (In script.connectors) r

  is-told : (vary : Bool) (side : Side) (told : List ℕ) (r : Reply R)
      → reply_value script.connectors (answers script.connectors) vary side told ≡ Some r → IsTold vary told r
  is-told vary side told r h =
      let s = reply-sound script.connectors (answers script.connectors) (In script.connectors) vary side
      (is.reads script.connectors keeps.connectors vary side) told r h in
      record {
        stands = behind-blank (lines.reply_words answer_words script vary r) told (replies-some vary r)
            (sym (ap line_of (replies-same vary r)) ∙ s.0);
        within = s.1;
      }

  abbrev pub Prints : List ℕ → Entry C R → Type 0
  Prints line entry = (entry_line cmd_words answer_words script entry ≡ line) × IsEntry of In script on entry

  pub call-found : (line : List ℕ) (n : ℕ) (who done told : List ℕ) (by : ConnId) (asked : Ask C) (entry : Entry C R)
      → IsCutLine line n who done told → caller_of script.connectors who ≡ Some by
      → MakesCommand script on by done (of asked) × StandsAs script.connectors (of asked) done
      → call_entry script.connectors (answers script.connectors) n by (asked_side (of asked)) asked told ≡ Some entry
      → Prints line entry
  call-found line n who done told by asked entry cut called makes h =
      let w : What C = what.Call asked in
      let vary = is_of_vary w in
      let make : Reply R → Entry C R = λ answer. (record { no = n; by = by; what = what.Call asked; reply = answer }) in
      let side = asked_side (of asked) in
      let m = mapped make (reply_value script.connectors (answers script.connectors) vary side told) entry h in
      let t = is-told vary side told m.value m.read in
      let who_is = caller-told script.connectors who by keeps.connectors called in
      let words : tail_of (ask_words cmd_words script asked) ≡ 32 ∷ done =
      sym (ap tail_of (is.asks script asked)) ∙ makes.1 in
      let printed : entry_line cmd_words answer_words script (make m.value)
      ≡ cut_line n (caller_name script.connectors by.0) done told =
      entry-told n (caller_name script.connectors by.0) (ask_words cmd_words script asked)
      (lines.reply_words answer_words script vary m.value) done told words t.stands in
      let whole : entry_line cmd_words answer_words script (make m.value) ≡ line =
      printed ∙ ap (λ (l : List ℕ). cut_line n l done told) who_is.0 ∙ sym cut.whole in
      subst (Prints line) m.made (whole, (cut.small, (who_is.1, (done, makes.0), t.within)))

  pub mark-found : (line : List ℕ) (n : ℕ) (who done told : List ℕ) (cf : CfId) (entry : Entry C R)
      → IsCutLine line n who done told → who ≡ codes "SYS"
      → (done ≡ codes "LOST " ++ facility_word cf) × IsFacility cf
      → mark_entry script.connectors (answers script.connectors) n cf told ≡ Some entry → Prints line entry
  mark-found line n who done told cf entry cut sys lost h =
      let make : Reply R → Entry C R =
      λ answer. (record { no = n; by = operator; what = what.Lost cf; reply = answer }) in
      let value = reply_value script.connectors (answers script.connectors) false Common told in
      let m = mapped make (value >>= loss_alone) entry h in
      let b = bound loss_alone value m.value m.read in
      let t = is-told false Common told b.value b.read in
      let l = loss-told script.connectors (In script.connectors) b.value m.value b.then_ t.within in
      let words : tail_of (codes "LOST" ∷ facility_word cf ∷ []) ≡ 32 ∷ done =
      ap (λ (w : List ℕ). 32 ∷ codes "LOST" ++ 32 ∷ w) (append-nil (facility_word cf))
      ∙ ap (λ (d : List ℕ). 32 ∷ d) (sym lost.0) in
      let printed : entry_line cmd_words answer_words script (make b.value) ≡ cut_line n (codes "SYS") done told =
      entry-told n (codes "SYS") (codes "LOST" ∷ facility_word cf ∷ [])
      (lines.reply_words answer_words script false b.value) done told words t.stands in
      let whole : entry_line cmd_words answer_words script (make b.value) ≡ line =
      printed ∙ ap (λ (l : List ℕ). cut_line n l done told) (sym sys) ∙ sym cut.whole in
      let good : Prints line (make b.value) = (whole, (cut.small, (refl, lost.1, l.1))) in
      subst (Prints line) (ap make l.0 ∙ m.made) good
