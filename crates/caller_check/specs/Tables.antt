-- The tests of all callers, as the histories answer them: for each structure a queue of each caller.
use Rattle.std.specs.Prelude.{◌≡◌, ℕ, List, [], length, map, take, slice_get, Some}
use Rattle.std.specs.declared.vec.Vec.{Vec}
use Rattle.std.specs.declared.alloc.Global.{Global}
use Rattle.cf_types.specs.declared.forms.StrForm.{StrForm}
use Rattle.cf_types.specs.declared.numbers.ConnId.{ConnId}
use Rattle.cf_types.specs.declared.numbers.StrNo.{StrNo}
use Rattle.caller_slots.specs.RunShown.Meanings.{altered_caches}
use Rattle.caller_slots.specs.RunShown.QueueModel.ListQueues.{queued_lists}
use Rattle.caller_slots.specs.RunShown.LockModel.Meaning.{lock_meaning}
use Rattle.caller_slots.specs.RunShown.PlexScript.declared.asks.AnyHistory.{AnyHistory}
use Rattle.caller_slots.specs.RunShown.PlexScript.declared.asks.AnyHistory.TheVariants as history
use Rattle.caller_slots.specs.RunShown.PlexScript.declared.scripts.Script.{Script}
use Rattle.caller_slots.specs.RunShown.PlexScript.declared.transcripts.Shown.{Shown}
use Rattle.caller_slots.specs.RunShown.PlexScript.declared.transcripts.Transcript.{Transcript}
use Rattle.caller_items.specs.Orders.{AreInOrder}
use Rattle.vector_waits.specs.Waits.{QueueView, AreSettled, untold}
use Rattle.caller_waits.specs.Tests.{waits_of}
use Rattle.check_model.specs.declared.printed.Printed.{Printed}

-- the tables, where each is a Vec
abbrev pub rows_of : List (Vec QueueView Global) → List (List QueueView)
rows_of tables = map (λ table. table.items) tables

-- each test is told exactly where the history tells what it shows
abbrev pub AnySettled : StrForm → AnyHistory → QueueView → Type 0
AnySettled form (history.Cache entries) queue = AreSettled altered_caches form entries queue
AnySettled form (history.List entries) queue = AreSettled queued_lists form entries queue
AnySettled form (history.Lock entries) queue = AreSettled lock_meaning form entries queue

-- the tests that this caller's items show of a structure, as the history answers them: those of the items that are in
-- order, since no queue rises with the tests of the others
pub record IsAnswered (histories : List AnyHistory) (on : StrNo) (form : StrForm) (entries : AnyHistory) (conn : ConnId)
    (items : List Shown) (queue : QueueView) : Type 0 where
  pub many : ℕ
  pub order : AreInOrder histories items many
  pub caller : queue.conn ≡ conn
  pub tests : map untold queue.waits ≡ map untold (waits_of on form.vector [] (take many items))
  pub settled : AnySettled form entries queue

-- a table for each structure, with a queue of each caller
pub record AreAnswered (script : Script) (printed : Printed) (tables : List (List QueueView)) : Type 0 where
  pub size : length tables ≡ length script.structures
  pub rows : (x : ℕ) (table : List QueueView) → slice_get tables x ≡ Some table
      → length table ≡ length printed.transcripts
  pub each : (on : StrNo) (form : StrForm) (entries : AnyHistory) (table : List QueueView) (conn : ConnId)
      (transcript : Transcript) (queue : QueueView) → slice_get script.structures on.0 ≡ Some form
      → slice_get printed.histories on.0 ≡ Some entries → slice_get tables on.0 ≡ Some table
      → slice_get printed.transcripts conn.0 ≡ Some transcript → slice_get table conn.0 ≡ Some queue
      → IsAnswered printed.histories on form entries conn transcript.items queue
