-- Events, and replies to the common commands.
use Rattle.std.specs.Prelude.{ℕ, Bool, true, false, List, [], ◌∷◌, Option, codes}
use Rattle.cf_types.specs.declared.names.Name16.{Name16}
use Rattle.cf_types.specs.declared.events.Event.{Event}
use Rattle.cf_types.specs.declared.events.Event.TheVariants as event
use Rattle.cf_types.specs.declared.shell_commands.ShellReply.{ShellReply}
use Rattle.cf_types.specs.declared.shell_commands.ShellReply.TheVariants as shell
use Rattle.line_rows.specs.Rows.{Row, led, form, first_of}
use Rattle.line_rows.specs.Singles.{a_facility, a_connector}
use Rattle.reply_rows.specs.Parts.{small, a_resource, a_state, plain, with_one, with_two}

abbrev pub event_words : List Name16 → Event → List (List ℕ)
event_words connectors (event.NewConn conn) = (with_one (codes "NEWCONN") (a_connector connectors)).words (conn, tt)
event_words connectors (event.DiscFail conn) = (with_one (codes "DISCFAIL") (a_connector connectors)).words (conn, tt)
event_words connectors (event.Quiesce number) = (with_one (codes "QUIESCE") small).words (number, tt)
event_words connectors (event.RebuildConnect number) = (with_one (codes "REBUILDCONNECT") small).words (number, tt)
event_words connectors (event.ConnectsDone number) = (with_one (codes "CONNECTSDONE") small).words (number, tt)
event_words connectors (event.Cleanup number) = (with_one (codes "CLEANUP") small).words (number, tt)
event_words connectors (event.Complete number) = (with_one (codes "COMPLETE") small).words (number, tt)
event_words connectors (event.Stop number) = (with_one (codes "STOP") small).words (number, tt)
event_words connectors (event.StopDone number) = (with_one (codes "STOPDONE") small).words (number, tt)
event_words connectors (event.LostConn cf) = (with_one (codes "LOSTCONN") a_facility).words (cf, tt)
event_words connectors event.StrFail = (plain (codes "STRFAIL")).words tt
event_words connectors (event.Contention r conn) =
    (with_two (codes "CONTENTION") a_resource (a_connector connectors)).words (r, (conn, tt))
event_words connectors (event.Notify r conn) =
    (with_two (codes "NOTIFY") a_resource (a_connector connectors)).words (r, (conn, tt))
event_words connectors (event.Granted r excl) = (with_two (codes "GRANTED") a_resource a_state).words (r, (excl, tt))
event_words connectors (event.Denied r) = (with_one (codes "DENIED") a_resource).words (r, tt)

abbrev pub event_forms : List Name16 → List (List (List ℕ) → Option Event)
event_forms connectors =
    form (with_one (codes "NEWCONN") (a_connector connectors)) (λ v. event.NewConn v.0)
    ∷ form (with_one (codes "DISCFAIL") (a_connector connectors)) (λ v. event.DiscFail v.0)
    ∷ form (with_one (codes "QUIESCE") small) (λ v. event.Quiesce v.0)
    ∷ form (with_one (codes "REBUILDCONNECT") small) (λ v. event.RebuildConnect v.0)
    ∷ form (with_one (codes "CONNECTSDONE") small) (λ v. event.ConnectsDone v.0)
    ∷ form (with_one (codes "CLEANUP") small) (λ v. event.Cleanup v.0)
    ∷ form (with_one (codes "COMPLETE") small) (λ v. event.Complete v.0)
    ∷ form (with_one (codes "STOP") small) (λ v. event.Stop v.0)
    ∷ form (with_one (codes "STOPDONE") small) (λ v. event.StopDone v.0)
    ∷ form (with_one (codes "LOSTCONN") a_facility) (λ v. event.LostConn v.0)
    ∷ form (plain (codes "STRFAIL")) (λ v. event.StrFail)
    ∷ form (with_two (codes "CONTENTION") a_resource (a_connector connectors)) (λ v. event.Contention v.0 v.1.0)
    ∷ form (with_two (codes "NOTIFY") a_resource (a_connector connectors)) (λ v. event.Notify v.0 v.1.0)
    ∷ form (with_two (codes "GRANTED") a_resource a_state) (λ v. event.Granted v.0 v.1.0)
    ∷ form (with_one (codes "DENIED") a_resource) (λ v. event.Denied v.0)
    ∷ []

abbrev pub event_row : List Name16 → Row Event
event_row connectors = record { words = event_words connectors; values = first_of (event_forms connectors) }

-- a loss that VARY brings about stands behind OK
abbrev pub told : {V : Type 0} → Bool → Row V → Row V
told true row = led (codes "OK") row
told false row = row

abbrev pub shell_words : List Name16 → Bool → ShellReply → List (List ℕ)
shell_words connectors vary shell.Ok = (plain (codes "OK")).words tt
shell_words connectors vary (shell.OkNew cf) = (led (codes "OK") (with_one (codes "NEW") a_facility)).words (cf, tt)
shell_words connectors vary (shell.Reconnected cf) =
    (led (codes "OK") (with_one (codes "RECONNECTED") a_facility)).words (cf, tt)
shell_words connectors vary (shell.Event event) = (led (codes "EVENT") (event_row connectors)).words event
shell_words connectors vary (shell.Responded event) = (led (codes "RESPONDED") (event_row connectors)).words event
shell_words connectors vary (shell.OkNumber number) = (with_one (codes "OK") small).words (number, tt)
shell_words connectors vary (shell.OkAt cf) = (with_one (codes "OK") a_facility).words (cf, tt)
shell_words connectors vary (shell.Copied moved left) = (with_two (codes "COPIED") small small).words (moved, (left, tt))
shell_words connectors vary shell.OkNone = (led (codes "OK") (plain (codes "NONE"))).words tt
shell_words connectors vary (shell.Simplex cf) = (told vary (with_one (codes "SIMPLEX") a_facility)).words (cf, tt)
shell_words connectors vary (shell.Stopped number) = (told vary (with_one (codes "STOPPED") small)).words (number, tt)
shell_words connectors vary shell.FailedNow = (told vary (plain (codes "FAILED"))).words tt

abbrev pub shell_forms : List Name16 → Bool → List (List (List ℕ) → Option ShellReply)
shell_forms connectors vary =
    form (plain (codes "OK")) (λ v. shell.Ok)
    ∷ form (with_one (codes "OK") small) (λ v. shell.OkNumber v.0)
    ∷ form (led (codes "OK") (with_one (codes "NEW") a_facility)) (λ v. shell.OkNew v.0)
    ∷ form (led (codes "OK") (with_one (codes "RECONNECTED") a_facility)) (λ v. shell.Reconnected v.0)
    ∷ form (led (codes "EVENT") (event_row connectors)) (λ v. shell.Event v)
    ∷ form (led (codes "RESPONDED") (event_row connectors)) (λ v. shell.Responded v)
    ∷ form (with_two (codes "COPIED") small small) (λ v. shell.Copied v.0 v.1.0)
    ∷ form (led (codes "OK") (plain (codes "NONE"))) (λ v. shell.OkNone)
    ∷ form (told vary (with_one (codes "SIMPLEX") a_facility)) (λ v. shell.Simplex v.0)
    ∷ form (told vary (with_one (codes "STOPPED") small)) (λ v. shell.Stopped v.0)
    ∷ form (told vary (plain (codes "FAILED"))) (λ v. shell.FailedNow)
    ∷ form (with_one (codes "OK") a_facility) (λ v. shell.OkAt v.0)
    ∷ []

abbrev pub shell_row : List Name16 → Bool → Row ShellReply
shell_row connectors vary = record { words = shell_words connectors vary; values = first_of (shell_forms connectors vary) }
