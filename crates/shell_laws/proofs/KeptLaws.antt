-- Whether the structure has failed, the capacity, and how many items are copied: the machine has what its history tells.
use Rattle.shell_laws.proofs.Imports.{arith, ◌≡◌, ℕ, ◌+◌, Bool, true, false, ◌&&◌, if◌then◌else◌, List, [], ◌∷◌, ◌++◌, Option, None, Some, option_map, sum_by, sum_by-cons, refl, sym, ap, ◌∙◌, subst, filter_agree, StrForm, CfId, ConnId, Refusal, ShellCmd, Connections, Ask, Reply, What, Entry, after_what, replay, IsLegal, Machine, command_done, content_done, copied_after, departure_from, entered_machine, loss_step, room_of, step, unless, Meaning, replay-push, is_copy, shell_cause, goes, leaver, loss_outcome, content_cause, Rebuild, No, outcome, actives_after, conns_after, IsManned, Reading, awaited, passed, read_next, read_past, reading_told, rebuild_of, with_entry, with_told, Telling, TellingEntry, is_emptying, mark_telling, telling_entry, telling_of, Nothing, Copies, Starts, Stops, Fails, Departs, Forces, Deallocates, Completes, Responds, Places, caps_by, caps_past, caps_next, capacity_told, copied_in, copied_told, failed_by, failed_next, failed_told, goes_behind, items_told}
use Rattle.shell_laws.proofs.Answered.{reply_for}
use Rattle.shell_laws.proofs.FactLaws.{IsCounted, counted_kept, facts-command, facts-loss, items_kept, kept-move, same_past}
use Rattle.shell_laws.proofs.FillingLaws.{filled-replay}
use Rattle.shell_laws.proofs.HistoryLaws.{IsRead, IsReplied, read-legal, reading-push, told-push}
use Rattle.shell_laws.proofs.MemberLaws.{manned-replay, sound_of}
use Rattle.shell_laws.proofs.ReadingLaws.{IsGoing}
use Rattle.shell_laws.proofs.ShellMoves.{standing_of}
use Rattle.shell_laws.proofs.StepLaws.{move_by, moves-loss}

-- ---- one entry more

module _ {C R I S : Type 0} (meaning : Meaning C R I S) (form : StrForm) (machine : Machine S) (manned : IsManned
    machine.shell) (counted : IsCounted machine.copied machine.shell.rebuild) where
  -- what is told is what becomes of it
  pub record IsTold (told : Telling) (after : Machine S) : Type 0 where
    pub failed : after.shell.failed ≡ failed_by (goes form after.shell.conns) told machine.shell.failed
    pub caps : after.shell.caps
        ≡ caps_by form.caps (goes form after.shell.conns) told machine.shell.rebuild after.shell.rebuild
        machine.shell.caps
    pub items : after.copied
        ≡ items_kept after.shell.rebuild (is_emptying told) (machine.copied + items_told told)

  told_nothing : (after : Machine S) → after.shell.failed ≡ machine.shell.failed
      → after.shell.caps ≡ machine.shell.caps → after.shell.rebuild ≡ machine.shell.rebuild
      → after.copied ≡ machine.copied → IsTold Nothing after
  told_nothing after failed caps rebuild copied = record {
    failed = failed;
    caps = caps ∙ sym (ap (λ (r : Option Rebuild). caps_past machine.shell.rebuild r machine.shell.caps) rebuild
        ∙ same_past machine.shell.rebuild machine.shell.caps);
    items = grind (arith, counted_kept);
  }

  told_loss : (by : ConnId) (cf : CfId) → let lost = loss_step meaning form machine cf in
      IsTold (telling_of {C = C} (What.Lost cf) lost.reply) lost.machine
  told_loss by cf =
      let acted = loss_outcome form cf machine.shell in
      let none : machine.copied + 0 ≡ machine.copied = omega arith in
      let kept = kept-move form (room_of meaning form machine) (standing_of machine.shell) machine.copied
      counted (Unit {0}) by false None 0 (mark_telling acted.reply) acted tt (sound_of machine.shell manned)
      (moves-loss form (room_of meaning form machine) machine.shell (Unit {0}) by cf)
      (facts-loss form cf machine.shell) in record {
        failed = kept.failed;
        caps = kept.caps;
        items = ap (copied_after acted.deeds) (sym none) ∙ kept.items;
      }

  told_command : (by : ConnId) (command : ShellCmd) → let answered = step meaning form machine by (Ask.Shell command) in
      IsTold (telling_of {C = C} (What.Call (Ask.Shell command)) answered.reply) answered.machine
  told_command by command = go (shell_cause form (room_of meaning form machine) machine.shell by command) refl
    where
      go : (cause : Option Refusal) → shell_cause form (room_of meaning form machine) machine.shell by command ≡ cause
          → let answered = unless meaning form cause machine (command_done meaning form machine by command) in IsTold
          (telling_of {C = C} (What.Call (Ask.Shell command)) answered.reply) (entered_machine answered.machine)
      go (Some refusal) is = told_nothing _ refl refl refl refl
      go None is =
          let kept = kept-move form (room_of meaning form machine) (standing_of machine.shell) machine.copied
          counted _ by _ _ _ _ _ manned.places (sound_of machine.shell manned) (move_by meaning form machine by command is)
          (facts-command form (room_of meaning form machine) machine.shell
          (departure_from meaning form (leaver machine.shell by command) machine).letters by command) in record {
            failed = kept.failed;
            caps = kept.caps;
            items = kept.items;
          }

  told_content : (by : ConnId) (command : C) → let answered = step meaning form machine by (Ask.Content command) in
      IsTold (telling_of {C = C} (What.Call (Ask.Content command)) answered.reply) answered.machine
  told_content by command = go (content_cause machine.shell by)
    where
      go : (cause : Option Refusal)
          → let answered = unless meaning form cause machine (content_done meaning form machine by command) in
          IsTold Nothing (entered_machine answered.machine)
      go (Some refusal) = told_nothing _ refl refl refl refl
      go None = told_nothing _ refl refl refl refl

  pub told-after : (by : ConnId) (what : What C) → IsTold (telling_of what (reply_for meaning form machine by what))
      (after_what meaning form machine by what)
  told-after by (What.Call (Ask.Shell command)) = told_command by command
  told-after by (What.Call (Ask.Content command)) = told_content by command
  told-after by (What.Lost cf) = told_loss by cf

-- ---- the items that are read

abbrev items_of : List TellingEntry → ℕ
items_of entries = sum_by (λ entry. items_told entry.telling) entries

-- a stage that passes has none, and one that goes on those of its entries
past_copied : (members left : List ConnId) (read : Reading) (emptied : Bool) (n : ℕ)
    → (is_copy read.stage ≡ false → n ≡ 0)
    → (is_copy read.stage ≡ true → items_of read.entries ≡ if emptied then 0 else n)
    → copied_in (read_past members left read) ≡ items_kept (option_map rebuild_of (read_past members left read)) emptied n
past_copied [] left read emptied n outside within = refl
past_copied (member ∷ members) [] read emptied n outside within = grind arith
past_copied (member ∷ members) (conn ∷ left) read emptied n outside within = grind arith

stays_at : (members left : List ConnId) (read : Reading) → outcome read.stage members left ≡ No
    → read_past members left read ≡ Some read
stays_at [] left read going = absurd (cc)
stays_at (member ∷ members) [] read going = absurd (grind arith)
stays_at (member ∷ members) (conn ∷ left) read going = refl

module _ (by : ConnId) (read : Reading) where
  abbrev n : ℕ
  n = copied_in (Some read)

  abbrev IsCopied : Telling → Option Reading → Type 0
  IsCopied told after =
      copied_in after ≡ items_kept (option_map rebuild_of after) (is_emptying told) (n + items_told told)

  outside : is_copy read.stage ≡ false → n + 0 ≡ 0
  outside elsewhere = rw elsewhere refl

  inside : is_copy read.stage ≡ true → n + 0 ≡ items_of read.entries
  inside copy = rw copy (omega arith)

  -- one more item, or more, told in COPY
  module _ (moved : ℕ) where
    abbrev with_more : Reading
    with_more = with_entry by (Copies moved) read

    abbrev more_entry : TellingEntry
    more_entry = record { by = by; telling = Copies moved }

    awaited_still : awaited with_more ≡ awaited read
    awaited_still = grind (arith, filter_agree)

    one_more : items_of (more_entry ∷ read.entries) ≡ items_of read.entries + moved
    one_more = omega (arith, sum_by-cons (λ (e : TellingEntry). items_told e.telling) more_entry read.entries)

    at_stage : (copy : Bool) → (if copy then items_of (more_entry ∷ read.entries) else 0)
        ≡ (if copy && true then (if copy then items_of read.entries else 0) + moved else 0)
    at_stage true = one_more
    at_stage false = refl

    copies_more : IsGoing (Some read) → IsCopied (Copies moved) (passed with_more)
    copies_more going = subst (IsCopied (Copies moved)) (sym (stays_at read.members (awaited with_more) with_more
        (ap (outcome read.stage read.members) awaited_still ∙ going))) (at_stage (is_copy read.stage))

  -- an entry that tells of no items
  passed_copied : (told : Telling) (after : Reading) → after.stage ≡ read.stage → items_told told ≡ 0
      → (is_copy read.stage ≡ true → items_of after.entries ≡ if is_emptying told then 0 else n + 0)
      → IsCopied told (passed after)
  passed_copied told after same none within = rw none (past_copied after.members (awaited after) after
      (is_emptying told) (n + 0) (λ elsewhere. outside (sym (ap is_copy same) ∙ elsewhere))
      (λ copy. within (sym (ap is_copy same) ∙ copy)))

  emptied_entries : (told : Telling) (entry : TellingEntry) → is_emptying told ≡ true → is_copy read.stage ≡ true
      → items_of (if is_emptying told && is_copy read.stage then [] else entry ∷ read.entries) ≡ 0
  emptied_entries told entry empties copy = rw (empties, copy) refl

copied_next : (actives : List ConnId) (by : ConnId) (told : Telling) (read : Option Reading) → IsGoing read
    → copied_in (read_next actives by told read) ≡ items_kept (option_map rebuild_of (read_next actives by told read))
    (is_emptying told) (copied_in read + items_told told)
copied_next actives by (Starts number caps) read going = refl
copied_next actives by Stops (Some read) going = refl
copied_next actives by Fails (Some read) going = refl
copied_next actives by (Copies moved) (Some read) going = copies_more by read moved going
copied_next actives by (Places cf) (Some read) going =
    passed_copied by read (Places cf) (with_told by (Places cf) read) refl refl (λ copy. sym (inside by read copy))
copied_next actives by Completes (Some read) going =
    passed_copied by read Completes (with_told by Completes read) refl refl (λ copy. sym (inside by read copy))
copied_next actives by (Responds event) (Some read) going =
    passed_copied by read (Responds event) (with_told by (Responds event) read) refl refl
    (λ copy. sym (inside by read copy))
copied_next actives by Departs (Some read) going =
    passed_copied by read Departs (with_told by Departs read) refl refl (λ copy. rw copy refl)
copied_next actives by Forces (Some read) going =
    passed_copied by read Forces (with_told by Forces read) refl refl (λ copy. rw copy refl)
copied_next actives by Deallocates (Some read) going =
    passed_copied by read Deallocates (with_told by Deallocates read) refl refl (λ copy. sym (inside by read copy))
copied_next actives by Nothing (Some read) going =
    passed_copied by read Nothing (with_told by Nothing read) refl refl (λ copy. sym (inside by read copy))
copied_next actives by _ None going = refl

-- ---- histories

module _ {C R I S : Type 0} (meaning : Meaning C R I S) (form : StrForm) where
  abbrev active : List (Entry C R) → List ConnId
  active = actives_after meaning form

  abbrev conns : List (Entry C R) → Connections
  conns = conns_after meaning form

  abbrev machine_of : List (Entry C R) → Machine S
  machine_of history = replay meaning form history

  pub record AreTold (history : List (Entry C R)) : Type 0 where
    pub failed : (machine_of history).shell.failed ≡ failed_told form conns history
    pub caps : (machine_of history).shell.caps ≡ capacity_told form conns active history
    pub copied : (machine_of history).copied ≡ copied_told active history

  module _ (history : List (Entry C R)) (entry : Entry C R) (replied : IsReplied meaning form history entry)
      (read : IsRead meaning form history) (read' : IsRead meaning form (history ++ entry ∷ []))
      (facts : AreTold history) where
    abbrev longer : List (Entry C R)
    longer = history ++ entry ∷ []

    abbrev telling : Telling
    telling = (telling_entry entry).telling

    abbrev Told : Machine S → Type 0
    Told after = IsTold meaning form (machine_of history) (manned-replay meaning form history)
        (filled-replay meaning form history).filling telling after

    told : Told (machine_of longer)
    told = subst Told (sym (replay-push meaning form history entry))
        (subst (λ (answer : Reply R). IsTold meaning form (machine_of history) (manned-replay meaning form history)
        (filled-replay meaning form history).filling (telling_of entry.what answer)
        (after_what meaning form (machine_of history) entry.by entry.what)) (sym replied)
        (told-after meaning form (machine_of history) (manned-replay meaning form history)
        (filled-replay meaning form history).filling entry.by entry.what))

    abbrev last : Bool
    last = goes_behind form conns history entry

    told_next : AreTold longer
    told_next = record {
      failed = told.failed ∙ ap (failed_by last telling) facts.failed
          ∙ sym (told-push (failed_next form conns) [] history entry false);
      caps = told.caps ∙ (λ i. caps_by form.caps last telling (sym read.same i) (sym read'.same i) (facts.caps i))
          ∙ sym (told-push (caps_next form conns active) [] history entry form.caps);
      copied = told.items ∙ (λ i. items_kept (sym read'.same i) (is_emptying telling)
          (facts.copied i + items_told telling))
          ∙ sym (ap copied_in pushed ∙ copied_next (active history) entry.by telling (reading_told active history)
          read.goes ∙ ap (λ (r : Option Rebuild). items_kept r (is_emptying telling)
          (copied_told active history + items_told telling)) (sym (ap (option_map rebuild_of) pushed)));
    }
      where
        pushed : reading_told active longer ≡ read_next (active history) entry.by telling (reading_told active history)
        pushed = reading-push meaning form history entry

  pub told-legal : (history : List (Entry C R)) → IsLegal meaning form history → AreTold history
  told-legal history legal = (read-legal meaning form AreTold told_next history legal
      (record { failed = refl; caps = refl; copied = refl })).1
