-- Histories: a heading, and as many entries as it tells.
use Rattle.std.proofs.Common.{◌≡◌, inr, ℕ, ◌+◌, ◌<◌, ◌^◌, List, [], ◌∷◌, replicate, codes, Option, refl, sym, ap, subst, ◌∙◌}
use Rattle.std.specs.Option.{option_map_or}
use Rattle.cf_types.specs.declared.alter_commands.AlterCmd.{AlterCmd}
use Rattle.cf_types.specs.declared.alter_commands.AlterReply.{AlterReply}
use Rattle.cf_types.specs.declared.cache_commands.CacheCmd.{CacheCmd}
use Rattle.cf_types.specs.declared.cache_commands.CacheReply.{CacheReply}
use Rattle.cf_types.specs.declared.list_commands.QueueCmd.{QueueCmd}
use Rattle.cf_types.specs.declared.list_commands.QueueReply.{QueueReply}
use Rattle.cf_types.specs.declared.lock_commands.LockCmd.{LockCmd}
use Rattle.cf_types.specs.declared.lock_commands.LockReply.{LockReply}
use Rattle.cf_types.specs.declared.forms.Kind.{Kind}
use Rattle.cf_types.specs.declared.forms.Kind.TheVariants as kinds
use Rattle.cf_types.specs.declared.forms.StrForm.{StrForm}
use Rattle.cf_types.specs.declared.numbers.StrNo.{StrNo}
use Rattle.engine_api.specs.declared.histories.Entry.{Entry}
use Rattle.plex_script.specs.declared.asks.AnyHistory.{AnyHistory}
use Rattle.plex_script.specs.declared.asks.AnyHistory.TheVariants as history
use Rattle.plex_script.specs.declared.scripts.AnyAsk.TheVariants as ask
use Rattle.plex_script.specs.declared.scripts.Script.{Script}
use Rattle.plex_script.specs.Causes.{kind_of}
use Rattle.plex_script.specs.Limits.{KeepsLimits}
use Rattle.report_texts.specs.CheckModel.RunShown.Kinds.{IsOfKind}
use Rattle.report_texts.specs.CheckModel.RunShown.PlexScript.Heard.{any_length}
use Rattle.plex_report.specs.CommandWords.{alter_words, queue_words, lock_words}
use Rattle.plex_report.specs.Lines.{heading, entry_line, history_lines}
use Rattle.plex_report.specs.Naming.{structure_name}
use Rattle.plex_report.specs.ReplyWords.{alter_reply_words, queue_reply_words, lock_reply_words}
use Rattle.reply_rows.specs.Contents.{alter_answers, queue_answers, lock_answers}
use Rattle.report_lines.specs.Picked.{IsPicked}
use Rattle.report_lines.specs.Readable.{IsEntry}
use Rattle.reply_rows.specs.Within.{IsAlterReply, IsQueueReply, IsLockReply}
use Rattle.report_fronts.specs.Slots.{IsEntryLine, history_slot}
use Rattle.report_fronts.specs.Slots.Slot.{Entered}
use Rattle.report_fronts.specs.Steps.{Reads}
use Rattle.report_fronts.proofs.StepLaws.{reads_on, stops_on}
use Rattle.report_read.specs.declared.cursor.Cursor.{Cursor}
use Rattle.report_read.specs.declared.cursor.TextBad.{TextBad}
use Rattle.report_read.specs.declared.cursor.TextBad.TheVariants as bad
use Rattle.report_read.specs.Lines.{at_of, IsCut}
use Rattle.report_read.specs.Reads.{IsRead, AreRead, IsStop}
use Rattle.report_read.specs.Histories.{Shows, IsHistory, AreBehind, IsList, entries_behind}
use Rattle.report_read.proofs.EntryLaws.{line_read, line_other}

-- ---- the heading

module _ (script : Script) (number : ℕ) (text : List ℕ) (from : Cursor) where
  abbrev headed : ℕ → List ℕ
  headed n = heading (codes "HISTORY") (structure_name script number) n

  pub heading_read : (n : ℕ) (line : List ℕ) (to : Cursor) → IsCut text from line to → headed n ≡ line → n < 2 ^ 64
      → IsRead script text from (history_slot script number ∷ []) (headed n ∷ [])
      (replicate n (Entered (record { 0 = number }))) to
  heading_read n line to cut is small =
      let same = subst (λ (l : List ℕ). IsCut text from l to) (sym is) cut in
      line_read script text from to (history_slot script number) (headed n)
      (replicate n (Entered (record { 0 = number }))) same (n, small, inr tt, refl, refl)

  pub heading_other : (line : List ℕ) (to : Cursor) → KeepsLimits script → IsCut text from line to
      → ((n : ℕ) → n < 2 ^ 64 → headed n ≡ line → ⊥)
      → IsStop script text from (history_slot script number ∷ []) (bad.Line (from.count + 1))
  heading_other line to keeps cut none = line_other script text
      from to (history_slot script number) line keeps cut (λ left opens. none opens.0 opens.1 (sym opens.3))

-- ---- the entries of each kind

module _ (script : Script) (on : StrNo) where
  pub shows_cache : kind_of script.structures on ≡ kinds.Cache → Shows (entry_line alter_words alter_reply_words)
      (λ s o e. IsEntry (λ asked. ask.Cache asked) IsAlterReply s o e) script on
  shows_cache is = record {
    told = λ entry may. subst (λ (k : Kind). IsEntryLine script
        on k (entry_line alter_words alter_reply_words script entry)) (sym is) (entry, may, refl);
    only = λ line h. subst (λ (k : Kind). IsEntryLine script on k line) is h;
  }

  pub shows_list : IsList (kind_of script.structures on) → Shows (entry_line queue_words queue_reply_words)
      (λ s o e. IsEntry (λ asked. ask.List asked) IsQueueReply s o e) script on
  shows_list is = record {
    told = λ entry may. go_told (kind_of script.structures on) is entry may;
    only = λ line h. go_only (kind_of script.structures on) is line h;
  }
    where
      go_told : (k : Kind) → IsList k → (entry : Entry QueueCmd QueueReply) → IsEntry (λ asked. ask.List asked)
          IsQueueReply script on entry → IsEntryLine script on k (entry_line queue_words queue_reply_words script entry)
      go_told kinds.Cache none entry may = absurd none
      go_told (kinds.List headers locks refs) some entry may = (entry, may, refl)
      go_told kinds.Lock none entry may = absurd none

      go_only : (k : Kind) → IsList k → (line : List ℕ) → IsEntryLine script on k line
          → (entry : Entry QueueCmd QueueReply) × IsEntry (λ asked. ask.List asked) IsQueueReply script on entry
          × (line ≡ entry_line queue_words queue_reply_words script entry)
      go_only kinds.Cache none line h = absurd none
      go_only (kinds.List headers locks refs) some line h = h
      go_only kinds.Lock none line h = absurd none

  pub shows_lock : kind_of script.structures on ≡ kinds.Lock → Shows (entry_line lock_words lock_reply_words)
      (λ s o e. IsEntry (λ asked. ask.Lock asked) (λ connectors. IsLockReply) s o e) script on
  shows_lock is = record {
    told = λ entry may. subst (λ (k : Kind). IsEntryLine script
        on k (entry_line lock_words lock_reply_words script entry)) (sym is) (entry, may, refl);
    only = λ line h. subst (λ (k : Kind). IsEntryLine script on k line) is h;
  }

-- ---- what stands behind the heading

module _ (script : Script) (text : List ℕ) (from : Cursor) (on : StrNo) (n : ℕ) (to : Cursor) where
  pub caches_behind : (entries : List (Entry (AlterCmd CacheCmd) (AlterReply CacheReply)))
      → kind_of script.structures on ≡ kinds.Cache
      → AreRead script text from (Entered on) (entry_line alter_words alter_reply_words script) (λ e. IsEntry
      (λ asked. ask.Cache asked) IsAlterReply script on e × IsPicked (λ asked. ask.Cache asked) alter_reply_words
      alter_answers script on e) n entries to → AreBehind script text from on.0 n (history.Cache entries) to
  caches_behind entries is read = record {
    kind = subst (λ (k : Kind). IsOfKind k (history.Cache entries)) (sym is) tt;
    count = read.long;
    each = λ j d low. (read.each j d low).0;
    picked = λ j d low. (read.each j d low).1;
    read = read.read;
  }

  pub lists_behind : (entries : List (Entry QueueCmd QueueReply)) → IsList (kind_of script.structures on)
      → AreRead script text from (Entered on) (entry_line queue_words queue_reply_words script) (λ e. IsEntry
      (λ asked. ask.List asked) IsQueueReply script on e × IsPicked (λ asked. ask.List asked) queue_reply_words
      queue_answers script on e) n entries to → AreBehind script text from on.0 n (history.List entries) to
  lists_behind entries is read = record {
    kind = go (kind_of script.structures on) is;
    count = read.long;
    each = λ j d low. (read.each j d low).0;
    picked = λ j d low. (read.each j d low).1;
    read = read.read;
  }
    where
      go : (k : Kind) → IsList k → IsOfKind k (history.List entries)
      go kinds.Cache none = none
      go (kinds.List headers locks refs) some = tt
      go kinds.Lock none = none

  pub locks_behind : (entries : List (Entry LockCmd LockReply)) → kind_of script.structures on ≡ kinds.Lock → AreRead
      script text from (Entered on) (entry_line lock_words lock_reply_words script) (λ e. IsEntry (λ asked. ask.Lock
      asked) (λ connectors. IsLockReply) script on e × IsPicked (λ asked. ask.Lock asked) lock_reply_words
      lock_answers script on e) n entries to → AreBehind script text from on.0 n (history.Lock entries) to
  locks_behind entries is read = record {
    kind = subst (λ (k : Kind). IsOfKind k (history.Lock entries)) (sym is) tt;
    count = read.long;
    each = λ j d low. (read.each j d low).0;
    picked = λ j d low. (read.each j d low).1;
    read = read.read;
  }

-- ---- the whole history

module _ (script : Script) (text : List ℕ) (from : Cursor) (x : ℕ) where
  pub history_is : (n : ℕ) (entries : AnyHistory) (mid to : Cursor) → n < 2 ^ 64
      → AreBehind script text mid x n entries to → IsHistory script x entries
  history_is n entries mid to small behind = record {
    kind = λ form e. subst (λ (o : Option StrForm). IsOfKind
        (option_map_or (λ (form : StrForm). form.kind) o kinds.Cache) entries) e behind.kind;
    count = subst (λ (k : ℕ). k < 2 ^ 64) (sym behind.count) small;
    each = behind.each;
    picked = behind.picked;
  }

  lines_are : (entries : AnyHistory) → heading (codes "HISTORY") (structure_name script x)
      (any_length entries) ∷ entries_behind script entries ≡ history_lines script x entries
  lines_are (history.Cache entries) = refl
  lines_are (history.List entries) = refl
  lines_are (history.Lock entries) = refl

  pub history_read : (n : ℕ) (entries : AnyHistory) (mid to : Cursor) → IsRead script text
      from (history_slot script x ∷ []) (heading (codes "HISTORY") (structure_name script x) n ∷ [])
      (replicate n (Entered (record { 0 = x }))) mid → AreBehind script text mid x n entries to
      → IsRead script text from (history_slot script x ∷ []) (history_lines script x entries) [] to
  history_read n entries mid to first behind = record {
    reads = subst (λ (ls : List (List ℕ)). Reads script text (at_of from) (history_slot script x ∷ []) (at_of to)
        ls []) (ap (λ (k : ℕ). heading (codes "HISTORY") (structure_name script x) k ∷ entries_behind script entries)
        (sym behind.count) ∙ lines_are entries) (reads_on script text (at_of from) (at_of mid) (at_of to)
        (history_slot script x ∷ []) (replicate n (Entered (record { 0 = x }))) [] (heading (codes "HISTORY")
        (structure_name script x) n ∷ []) (entries_behind script entries) first.reads behind.read.reads);
    placed = behind.read.placed;
  }

  pub history_stop : (n : ℕ) (mid : Cursor) (why : TextBad) → IsRead script text from (history_slot script x ∷ [])
      (heading (codes "HISTORY") (structure_name script x) n ∷ []) (replicate n (Entered (record { 0 = x }))) mid
      → IsStop script text mid (replicate n (Entered (record { 0 = x }))) why
      → IsStop script text from (history_slot script x ∷ []) why
  history_stop n mid (bad.Line k) first stop =
      stops_on script text (at_of from) (at_of mid) (history_slot script x ∷ []) (replicate
      n (Entered (record { 0 = x }))) (heading (codes "HISTORY") (structure_name script x) n ∷ []) k first.reads stop
  history_stop n mid (bad.NoMemory cause) first stop = tt
