-- Which facilities a connector can't reach, and which are varied off: what the last command told that tells of it.
use Rattle.shell_laws.proofs.Imports.{arith, ◌≡◌, ◌≢◌, ℕ, ◌<◌, ◌+◌, Bool, true, false, not, ◌&&◌, ◌||◌, ◌==◌, if◌then◌else◌, List, [], ◌∷◌, ◌++◌, Option, None, Some, filter, length, set, slice_get, unwrap_or, refl, sym, ap, ◌∙◌, subst, eqb-true, fold_push, get_within, get-set_same, get-set_other, length-set, FACILITIES, Pref, StrForm, CfId, ConnId, IsFacility, IsForm, IsPref, Refusal, ShellCmd, is_member, with_member, without_member, Ask, Reply, What, Room, Entry, after_what, replay, IsLegal, Machine, command_done, content_done, departure_from, leaver, with_posted, entered_machine, room_of, unless, Meaning, replay-push, Shell, candidates, content_cause, is_off, is_severed, loss_outcome, shell_cause, shell_done, stands_at, with_off, last_told, lost_told, severs, told_by, told_next, varied_told, varies, candidates_told, recursion_from_All, AllByRecursion}
use Rattle.shell_laws.proofs.Answered.{reply_for}
use Rattle.shell_laws.proofs.HistoryLaws.{IsReplied, replied-legal}
use Rattle.shell_laws.proofs.LossLaws.{loss-cases}

-- ---- what commands make of both

pub record Reach : Type 0 where
  pub severed : List (List ConnId)
  pub off : List Bool

abbrev reach_of : Shell → Reach
reach_of shell = record { severed = shell.severed; off = shell.off }

abbrev severed_in : Reach → CfId → List ConnId
severed_in reach cf = unwrap_or (slice_get reach.severed cf.0) []

abbrev off_in : Reach → CfId → Bool
off_in reach cf = unwrap_or (slice_get reach.off cf.0) false

abbrev reach_by : ShellCmd → Reach → Reach
reach_by (ShellCmd.LoseConn other cf) reach =
    record reach { severed = set reach.severed cf.0 (with_member other (severed_in reach cf)) }
reach_by (ShellCmd.RestoreConn other cf) reach =
    record reach { severed = set reach.severed cf.0 (without_member other (severed_in reach cf)) }
reach_by (ShellCmd.Vary cf off) reach = record reach { off = set reach.off cf.0 off }
reach_by _ reach = reach

reach_loss : (form : StrForm) (cf : CfId) (shell : Shell) → reach_of (loss_outcome form cf shell).shell ≡ reach_of shell
reach_loss form cf shell = loss-cases form cf shell (λ acted. reach_of acted.shell ≡ reach_of shell) (record {
  none = refl;
  simplex = λ left lost. refl;
  stops = λ rebuild is there. refl;
  fails = refl;
})

module _ (form : StrForm) (room : Room) (shell : Shell) (by : ConnId) where
  reach_command : (command : ShellCmd)
      → reach_of (shell_done form room shell by command).shell ≡ reach_by command (reach_of shell)
  reach_command ShellCmd.Disconnect = grind arith
  reach_command ShellCmd.Fail = grind arith
  reach_command ShellCmd.Next = grind arith
  reach_command ShellCmd.Respond = grind arith
  reach_command ShellCmd.RebuildStop = grind arith
  reach_command ShellCmd.RebuildConnect = grind arith
  reach_command ShellCmd.RebuildComplete = grind arith
  reach_command (ShellCmd.Vary cf true) = reach_loss form cf (with_off cf true shell)
  reach_command ShellCmd.DuplexStop = grind arith
  reach_command command = refl

-- ---- members

member_with : (conn other : ConnId) (conns : List ConnId)
    → is_member conn (with_member other conns) ≡ ((other.0 == conn.0) || is_member conn conns)
member_with conn other [] = refl
member_with conn other (first ∷ others) = grind (arith, member_with conn other others, eqb-true)

member_without : (conn other : ConnId) (conns : List ConnId)
    → is_member conn (without_member other conns) ≡ (not (other.0 == conn.0) && is_member conn conns)
member_without conn other [] = grind arith
member_without conn other (first ∷ others) = grind (arith, member_without conn other others, eqb-true)

-- ---- what is read at a facility behind a command

-- there is a place for each facility
pub record IsWide (reach : Reach) : Type 0 where
  pub severed : length reach.severed ≡ FACILITIES + 1
  pub off : length reach.off ≡ FACILITIES + 1

wide_by : (command : ShellCmd) (reach : Reach) → IsWide reach → IsWide (reach_by command reach)
wide_by (ShellCmd.LoseConn other cf) reach wide = grind (arith, length-set)
wide_by (ShellCmd.RestoreConn other cf) reach wide = grind (arith, length-set)
wide_by (ShellCmd.Vary cf off) reach wide = grind (arith, length-set)
wide_by command reach wide = wide

-- what is put at a place, looked up at another
put_at : {X : Type 0} (xs : List X) (i j : ℕ) (x d : X) → j < length xs
    → unwrap_or (slice_get (set xs i x) j) d ≡ (if i == j then x else unwrap_or (slice_get xs j) d)
put_at xs i j x d within = go (i == j) refl
  where
    go : (b : Bool) → (i == j) ≡ b
        → unwrap_or (slice_get (set xs i x) j) d ≡ (if b then x else unwrap_or (slice_get xs j) d)
    go true same =
        let e : i ≡ j = eqb-true i j same in
        let there = get_within xs j within in
        rw (e, get-set_same xs j there.0 x there.1) refl
    go false apart = ap (λ (o : Option _). unwrap_or o d)
        (get-set_other xs i j x (λ e. absurd (grind arith)))

module _ (cf : CfId) (facility : IsFacility cf) where
  severed_by : (conn : ConnId) (command : ShellCmd) (reach : Reach) → IsWide reach
      → is_member conn (severed_in (reach_by command reach) cf)
      ≡ unwrap_or (severs conn cf command) (is_member conn (severed_in reach cf))
  severed_by conn (ShellCmd.LoseConn other at) reach wide = grind (arith, put_at, member_with)
  severed_by conn (ShellCmd.RestoreConn other at) reach wide = grind (arith, put_at, member_without)
  severed_by conn (ShellCmd.Vary at off) reach wide = refl
  severed_by conn command reach wide = refl

  off_by : (command : ShellCmd) (reach : Reach) → IsWide reach
      → off_in (reach_by command reach) cf ≡ unwrap_or (varies cf command) (off_in reach cf)
  off_by (ShellCmd.Vary at off) reach wide = grind (arith, put_at)
  off_by command reach wide = refl

-- ---- entries, and histories

module _ {C R I S : Type 0} (meaning : Meaning C R I S) (form : StrForm) where
  -- an entry tells of a command that is done, or changes nothing of both
  pub data Reached (what : What C) (answer : Reply R) (before after : Reach) : Type 0 where
    By : (command : ShellCmd) → ((tells : ShellCmd → Option Bool) → told_by tells what answer ≡ tells command)
        → after ≡ reach_by command before → Reached what answer before after
    Same : ((tells : ShellCmd → Option Bool) → told_by tells what answer ≡ None) → after ≡ before
        → Reached what answer before after

  reached : (machine : Machine S) (by : ConnId) (what : What C) → Reached what (reply_for meaning form machine by what)
      (reach_of machine.shell) (reach_of (after_what meaning form machine by what).shell)
  reached machine by (What.Call (Ask.Shell command)) =
      go (shell_cause form (room_of meaning form machine) machine.shell by command)
    where
      go : (cause : Option Refusal)
          → let answered = unless meaning form cause machine (command_done meaning form machine by command) in
          Reached (What.Call (Ask.Shell command)) answered.reply (reach_of machine.shell)
          (reach_of (entered_machine answered.machine).shell)
      go (Some refusal) = Same (λ tells. refl) refl
      go None = By command (λ tells. refl) (reach_command form (room_of meaning form machine) (with_posted
          (departure_from meaning form (leaver machine.shell by command) machine).letters machine.shell) by command)
  reached machine by (What.Call (Ask.Content command)) = go (content_cause machine.shell by)
    where
      go : (cause : Option Refusal)
          → let answered = unless meaning form cause machine (content_done meaning form machine by command) in
          Reached (What.Call (Ask.Content command)) answered.reply (reach_of machine.shell)
          (reach_of (entered_machine answered.machine).shell)
      go (Some refusal) = Same (λ tells. refl) refl
      go None = Same (λ tells. refl) refl
  reached machine by (What.Lost cf) = Same (λ tells. refl) (reach_loss form cf machine.shell)

  abbrev reach_after : List (Entry C R) → Reach
  reach_after history = reach_of (replay meaning form history).shell

  pub record AreReached (history : List (Entry C R)) : Type 0 where
    pub wide : IsWide (reach_after history)
    pub severed : (conn : ConnId) (cf : CfId) → IsFacility cf
        → is_member conn (severed_in (reach_after history) cf) ≡ lost_told history conn cf
    pub off : (cf : CfId) → IsFacility cf → off_in (reach_after history) cf ≡ varied_told history cf

  told_push : (tells : ShellCmd → Option Bool) (history : List (Entry C R)) (entry : Entry C R)
      → last_told tells (history ++ entry ∷ []) ≡ told_next tells (last_told tells history) entry
  told_push tells history entry = fold_push (told_next tells) false history entry

  reached_by : (history : List (Entry C R)) (entry : Entry C R) (after : Reach) → Reached entry.what entry.reply
      (reach_after history) after → AreReached history → reach_after (history ++ entry ∷ []) ≡ after
      → AreReached (history ++ entry ∷ [])
  reached_by history entry after (Same none same) are is =
      let e : reach_after (history ++ entry ∷ []) ≡ reach_after history = is ∙ same in record {
        wide = subst IsWide (sym e) are.wide;
        severed = λ conn cf facility. ap (λ (r : Reach). is_member conn (severed_in r cf)) e
            ∙ are.severed conn cf facility
            ∙ sym (told_push (severs conn cf) history entry
            ∙ ap (λ (o : Option Bool). unwrap_or o (lost_told history conn cf)) (none (severs conn cf)));
        off = λ cf facility. ap (λ (r : Reach). off_in r cf) e ∙ are.off cf facility
            ∙ sym (told_push (varies cf) history entry
            ∙ ap (λ (o : Option Bool). unwrap_or o (varied_told history cf)) (none (varies cf)));
      }
  reached_by history entry after (By command told done) are is =
      let before = reach_after history in
      let e : reach_after (history ++ entry ∷ []) ≡ reach_by command before = is ∙ done in record {
        wide = subst IsWide (sym e) (wide_by command before are.wide);
        severed = λ conn cf facility. ap (λ (r : Reach). is_member conn (severed_in r cf)) e
            ∙ severed_by cf facility conn command before are.wide
            ∙ ap (unwrap_or (severs conn cf command)) (are.severed conn cf facility)
            ∙ sym (told_push (severs conn cf) history entry
            ∙ ap (λ (o : Option Bool). unwrap_or o (lost_told history conn cf)) (told (severs conn cf)));
        off = λ cf facility. ap (λ (r : Reach). off_in r cf) e ∙ off_by cf facility command before are.wide
            ∙ ap (unwrap_or (varies cf command)) (are.off cf facility)
            ∙ sym (told_push (varies cf) history entry
            ∙ ap (λ (o : Option Bool). unwrap_or o (varied_told history cf)) (told (varies cf)));
      }

  reached_next : (history : List (Entry C R)) (entry : Entry C R) → IsReplied meaning form history entry
      → AreReached history → AreReached (history ++ entry ∷ [])
  reached_next history entry replied are =
      let machine = replay meaning form history in
      let after = after_what meaning form machine entry.by entry.what in
      reached_by history entry (reach_of after.shell) (subst (λ (answer : Reply R). Reached entry.what answer
      (reach_of machine.shell) (reach_of after.shell)) (sym replied) (reached machine entry.by entry.what)) are
      (ap (λ (m : Machine S). reach_of m.shell) (replay-push meaning form history entry))

  pub reached-legal : (history : List (Entry C R)) → IsLegal meaning form history → AreReached history
  reached-legal history legal = replied-legal meaning form AreReached reached_next history legal (record {
    wide = record { severed = refl; off = refl };
    severed = λ conn cf facility. grind arith;
    off = λ cf facility. grind arith;
  })

  -- ---- candidates

  module _ (history : List (Entry C R)) (are : AreReached history) (by : ConnId) where
    abbrev shell : Shell
    shell = (replay meaning form history).shell

    candidates_among : (prefs : List Pref) → AllByRecursion IsPref prefs
        → filter (λ pref. not (is_off shell pref.cf) && (not (stands_at shell pref.cf)
        && not (is_severed shell by pref.cf))) prefs
        ≡ filter (λ pref. not (varied_told history pref.cf) && (not (stands_at shell pref.cf)
        && not (lost_told history by pref.cf))) prefs
    candidates_among [] all = refl
    candidates_among (pref ∷ prefs) all =
        let off = are.off pref.cf all.0.0 in
        let severed = are.severed by pref.cf all.0.0 in
        rw (off, severed, candidates_among prefs all.1) refl

  pub candidates-legal : IsForm form → (history : List (Entry C R)) → IsLegal meaning form history → (by : ConnId)
      → candidates form (replay meaning form history).shell by
      ≡ candidates_told form (stands_at (replay meaning form history).shell) history by
  candidates-legal formed history legal by =
      candidates_among history (reached-legal history legal) by form.prefs (recursion_from_All IsPref form.prefs formed.prefs)
