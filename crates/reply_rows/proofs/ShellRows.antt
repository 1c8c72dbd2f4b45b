-- Events, and replies to the common commands, are read back.
use Rattle.std.proofs.Common.{◌≡◌, ℕ, Bool, true, false, List, length, Some, codes, refl}
use Rattle.cf_types.specs.declared.names.Name16.{Name16}
use Rattle.cf_types.specs.declared.numbers.ConnId.{ConnId}
use Rattle.cf_types.specs.declared.events.Event.{Event}
use Rattle.cf_types.specs.declared.events.Event.TheVariants as event
use Rattle.cf_types.specs.declared.shell_commands.ShellReply.{ShellReply}
use Rattle.cf_types.specs.declared.shell_commands.ShellReply.TheVariants as shell
use Rattle.plex_plain.specs.Ranges.{IsOneOf, AreNames}
use Rattle.line_rows.specs.Rows.{is_word, Row, IsSingle, IsRow, led, Both}
use Rattle.line_rows.specs.Singles.{a_connector}
use Rattle.line_rows.proofs.RowLaws.{◌or◌, led-is, first-forth, form-forth}
use Rattle.line_rows.proofs.SingleLaws.{facility-is, connector-is}
use Rattle.reply_rows.specs.Parts.{a_resource, a_state, plain, with_one, with_two}
use Rattle.reply_rows.specs.Within.{IsAResource, IsAny, IsEvent, IsShellReply}
use Rattle.reply_rows.specs.Shells.{event_words, event_forms, event_row, told, shell_words, shell_forms, shell_row}
use Rattle.reply_rows.proofs.PartLaws.{small-is, resource-is, state-is, plain-is, one-is, two-is, Nil, count-is, pair-is, at-is}

told-is : {V : Type 0} (In : V → Type 0) (vary : Bool) (row : Row V) → IsRow In row → IsRow In (told vary row)
told-is In true row is = led-is In (codes "OK") refl row is
told-is In false row is = is

module _ (connectors : List Name16) (names : AreNames connectors) where
  abbrev IsConn : ConnId → Type 0
  IsConn conn = IsOneOf (length connectors) conn

  conn-is : IsSingle IsConn (a_connector connectors)
  conn-is = connector-is connectors names

  -- a word with a connector, and with a resource before it
  by-is : (word : List ℕ) → is_word word ≡ true → IsRow (Both IsConn Nil) (with_one word (a_connector connectors))
  by-is word good = one-is IsConn word good (a_connector connectors) conn-is

  both-is : (word : List ℕ) → is_word word ≡ true
      → IsRow (Both IsAResource (Both IsConn Nil)) (with_two word a_resource (a_connector connectors))
  both-is word good = two-is IsAResource IsConn word good a_resource (a_connector connectors) resource-is conn-is

  pub event-is : IsRow (IsEvent connectors) (event_row connectors)
  event-is = record {
    back = λ r h. back r h;
    forth = first-forth (IsEvent connectors) (event_words connectors) (event_forms connectors) (
        form-forth _ _ _ _ (λ v. event.NewConn v.0) (by-is (codes "NEWCONN") refl) (λ v h. (refl, h))
        or form-forth _ _ _ _ (λ v. event.DiscFail v.0) (by-is (codes "DISCFAIL") refl) (λ v h. (refl, h))
        or form-forth _ _ _ _ (λ v. event.Quiesce v.0) (count-is (codes "QUIESCE") refl) (λ v h. (refl, h)) or
        form-forth _ _ _ _ (λ v. event.RebuildConnect v.0) (count-is (codes "REBUILDCONNECT") refl) (λ v h. (refl, h))
        or form-forth _ _ _ _ (λ v. event.ConnectsDone v.0) (count-is (codes "CONNECTSDONE") refl) (λ v h. (refl, h))
        or form-forth _ _ _ _ (λ v. event.Cleanup v.0) (count-is (codes "CLEANUP") refl) (λ v h. (refl, h))
        or form-forth _ _ _ _ (λ v. event.Complete v.0) (count-is (codes "COMPLETE") refl) (λ v h. (refl, h))
        or form-forth _ _ _ _ (λ v. event.Stop v.0) (count-is (codes "STOP") refl) (λ v h. (refl, h))
        or form-forth _ _ _ _ (λ v. event.StopDone v.0) (count-is (codes "STOPDONE") refl) (λ v h. (refl, h))
        or form-forth _ _ _ _ (λ v. event.LostConn v.0) (at-is (codes "LOSTCONN") refl) (λ v h. (refl, h))
        or form-forth _ _ _ _ (λ v. event.StrFail) (plain-is (codes "STRFAIL") refl) (λ v h. (refl, h))
        or form-forth _ _ _ _ (λ v. event.Contention v.0 v.1.0) (both-is (codes "CONTENTION") refl) (λ v h. (refl, h))
        or form-forth _ _ _ _ (λ v. event.Notify v.0 v.1.0) (both-is (codes "NOTIFY") refl) (λ v h. (refl, h))
        or form-forth _ _ _ _ (λ v. event.Granted v.0 v.1.0) (two-is IsAResource IsAny (codes "GRANTED")
        refl a_resource a_state resource-is state-is) (λ v h. (refl, h)) or form-forth _ _ _ _ (λ v. event.Denied v.0)
        (one-is IsAResource (codes "DENIED") refl a_resource resource-is) (λ v h. (refl, h)) or tt);
  }
    where
      back : (r : Event) → IsEvent connectors r → (event_row connectors).values (event_words connectors r) ≡ Some r
      back (event.NewConn a) h = rw ((by-is (codes "NEWCONN") refl).back (a, tt) h) refl
      back (event.DiscFail a) h = rw ((by-is (codes "DISCFAIL") refl).back (a, tt) h) refl
      back (event.Quiesce a) h = rw ((count-is (codes "QUIESCE") refl).back (a, tt) h) refl
      back (event.RebuildConnect a) h = rw ((count-is (codes "REBUILDCONNECT") refl).back (a, tt) h) refl
      back (event.ConnectsDone a) h = rw ((count-is (codes "CONNECTSDONE") refl).back (a, tt) h) refl
      back (event.Cleanup a) h = rw ((count-is (codes "CLEANUP") refl).back (a, tt) h) refl
      back (event.Complete a) h = rw ((count-is (codes "COMPLETE") refl).back (a, tt) h) refl
      back (event.Stop a) h = rw ((count-is (codes "STOP") refl).back (a, tt) h) refl
      back (event.StopDone a) h = rw ((count-is (codes "STOPDONE") refl).back (a, tt) h) refl
      back (event.LostConn a) h = rw ((at-is (codes "LOSTCONN") refl).back (a, tt) h) refl
      back event.StrFail h = refl
      back (event.Contention a b) h = rw ((both-is (codes "CONTENTION") refl).back (a, (b, tt)) h) refl
      back (event.Notify a b) h = rw ((both-is (codes "NOTIFY") refl).back (a, (b, tt)) h) refl
      back (event.Granted a b) h = rw ((two-is IsAResource IsAny
          (codes "GRANTED") refl a_resource a_state resource-is state-is).back (a, (b, tt)) h) refl
      back (event.Denied a) h =
          rw ((one-is IsAResource (codes "DENIED") refl a_resource resource-is).back (a, tt) h) refl

  led_is : (word : List ℕ) → is_word word ≡ true → (more : List ℕ) → is_word more ≡ true
      → IsRow (λ (v : Unit {0}). Unit {0}) (led word (plain more))
  led_is word good more also = led-is _ word good _ (plain-is more also)

  pub shell-is : (vary : Bool) → IsRow (IsShellReply connectors) (shell_row connectors vary)
  shell-is vary = record {
    back = λ r h. back vary r h;
    forth = first-forth (IsShellReply connectors) (shell_words connectors vary) (shell_forms connectors vary) (
        form-forth _ _ _ _ (λ v. shell.Ok) (plain-is (codes "OK") refl) (λ v h. (refl, h))
        or form-forth _ _ _ _ (λ v. shell.OkNumber v.0) (count-is (codes "OK") refl) (λ v h. (refl, h))
        or form-forth _ _ _ _ (λ v. shell.OkNew v.0) (led-is _ (codes "OK") refl _ (at-is (codes "NEW") refl))
        (λ v h. (refl, h)) or form-forth _ _ _ _ (λ v. shell.Reconnected v.0)
        (led-is _ (codes "OK") refl _ (at-is (codes "RECONNECTED") refl)) (λ v h. (refl, h)) or form-forth
        _ _ _ _ (λ v. shell.Event v) (led-is _ (codes "EVENT") refl _ event-is) (λ v h. (refl, h)) or form-forth _
        _ _ _ (λ v. shell.Responded v) (led-is _ (codes "RESPONDED") refl _ event-is) (λ v h. (refl, h)) or form-forth
        _ _ _ _ (λ v. shell.Copied v.0 v.1.0) (pair-is (codes "COPIED") refl) (λ v h. (refl, h)) or form-forth _ _
        _ _ (λ v. shell.OkNone) (led_is (codes "OK") refl (codes "NONE") refl) (λ v h. (refl, h)) or form-forth _ _ _
        _ (λ v. shell.Simplex v.0) (told-is _ vary _ (at-is (codes "SIMPLEX") refl)) (λ v h. (refl, h)) or form-forth
        _ _ _ _ (λ v. shell.Stopped v.0) (told-is _ vary _ (count-is (codes "STOPPED") refl)) (λ v h. (refl, h)) or
        form-forth _ _ _ _ (λ v. shell.FailedNow) (told-is _ vary _ (plain-is (codes "FAILED") refl)) (λ v h. (
          refl,
          h,
        )) or form-forth _ _ _ _ (λ v. shell.OkAt v.0) (at-is (codes "OK") refl) (λ v h. (refl, h)) or tt);
  }
    where
      back : (vary : Bool) (r : ShellReply)
          → IsShellReply connectors r → (shell_row connectors vary).values (shell_words connectors vary r) ≡ Some r
      back vary shell.Ok h = refl
      back vary (shell.OkNew cf) h = rw (facility-is.back cf h.0) refl
      back vary (shell.Reconnected cf) h = rw (facility-is.back cf h.0) refl
      back vary (shell.Event e) h = rw (event-is.back e h) refl
      back vary (shell.Responded e) h = rw (event-is.back e h) refl
      back vary (shell.OkNumber n) h = rw (small-is.back n h.0) refl
      back true (shell.OkAt cf) h = rw (facility-is.back cf h.0) refl
      back false (shell.OkAt cf) h = rw (facility-is.back cf h.0) refl
      back vary (shell.Copied m n) h = rw (small-is.back m h.0, small-is.back n h.1.0) refl
      back vary shell.OkNone h = refl
      back true (shell.Simplex cf) h = rw (facility-is.back cf h.0) refl
      back false (shell.Simplex cf) h = rw (facility-is.back cf h.0) refl
      back true (shell.Stopped n) h = rw (small-is.back n h.0) refl
      back false (shell.Stopped n) h = rw (small-is.back n h.0) refl
      back true shell.FailedNow h = refl
      back false shell.FailedNow h = refl
