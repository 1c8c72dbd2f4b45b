-- What a caller's transcript must be, but for what tests, posts and takes answer: slots, computed from the caller's own
-- calls at each structure; and where its work stops for want of a next call.
use Rattle.std.specs.Prelude.{◌≡◌, ℕ, ◌*◌, ◌≤◌, nat_lt, take, Bool, true, false, if◌then◌else◌, List, [], ◌∷◌, ◌++◌, map, slice_get, slice_index_or, slice_set, Option, None, Some}
use Rattle.run_shown.specs.CfTypes.declared.forms.Kind.{Kind}
use Rattle.run_shown.specs.CfTypes.declared.forms.StrForm.{StrForm}
use Rattle.run_shown.specs.CfTypes.declared.numbers.ConnId.{ConnId}
use Rattle.run_shown.specs.CfTypes.declared.numbers.StrNo.{StrNo}
use Rattle.run_shown.specs.CfTypes.declared.shell_commands.ShellCmd.TheVariants as cmd
use Rattle.run_shown.specs.PlexScript.declared.agents.Step.{Step}
use Rattle.run_shown.specs.PlexScript.declared.agents.Step.TheVariants as step
use Rattle.run_shown.specs.PlexScript.declared.asks.AnyHistory.{AnyHistory}
use Rattle.run_shown.specs.PlexScript.declared.scripts.AnyAsk.{AnyAsk}
use Rattle.run_shown.specs.PlexScript.declared.scripts.Act.{Act}
use Rattle.run_shown.specs.PlexScript.declared.scripts.Act.TheVariants as act
use Rattle.run_shown.specs.PlexScript.declared.scripts.Line.{Line}
use Rattle.run_shown.specs.PlexScript.declared.scripts.Script.{Script}
use Rattle.run_shown.specs.PlexScript.declared.transcripts.Shown.{Shown}
use Rattle.run_shown.specs.PlexScript.declared.transcripts.Shown.TheVariants as shown
use Rattle.run_shown.specs.PlexScript.Agent.{first_step, step_after, asked_by, shell_ask}
use Rattle.run_shown.specs.PlexScript.Heard.{AnyCall, any_calls, own_calls, link_after}
use Rattle.run_shown.specs.PlexScript.Follows.{IsNote}
use Rattle.caller_slots.specs.Works.{Work, Does, Leaves, work_on, works_of}

-- ---- slots

-- the place of an item: a call, with what its step asks, if it asks anything; a test, of an index or of a word; what is
-- shown where these aren't in the vector; a POST; a TAKE
pub data Slot : Type 0 where
  Calls : StrNo → Option AnyAsk → AnyCall → Slot
  Tests : StrNo → ℕ → Slot
  Words : StrNo → ℕ → Slot
  Outside : StrNo → ℕ → Bool → ℕ → Slot
  Posts : StrNo → Slot
  Takes : StrNo → Slot

-- an item fits its place: a call's shows its number, and the call asks what the step asks
abbrev pub FillsOne : Slot → Shown → Type 0
FillsOne (Calls on asked call) item = (item ≡ shown.Call on call.no) × (asked ≡ Some call.ask)
FillsOne (Tests on index) item = (bit : Bool) × ((at : ℕ) × (item ≡ shown.Test on index bit at))
FillsOne (Words on word) item = (bits : ℕ) × ((at : ℕ) × (item ≡ shown.Word on word bits at))
FillsOne (Outside on index word len) item = item ≡ shown.BadIndex on index word len
FillsOne (Posts on) item = (sure : ℕ) × (item ≡ shown.Posted on sure)
FillsOne (Takes on) item = (sure : ℕ) × (item ≡ shown.Took on sure)

-- there is an item for each slot, and no more
abbrev pub Fills : List Slot → List Shown → Type 0
Fills [] [] = Unit {0}
Fills [] (item ∷ items) = ⊥
Fills (slot ∷ slots) [] = ⊥
Fills (slot ∷ slots) (item ∷ items) = FillsOne slot item × Fills slots items

-- ---- one work

-- a caller at a structure: whether it is active, and its calls that haven't had their place yet
pub record Place : Type 0 where
  pub linked : Bool
  pub left : List AnyCall

abbrev pub no_place : Place
no_place = record { linked = false; left = [] }

abbrev pub place_at : List Place → StrNo → Place
place_at places on = slice_index_or places on.0 no_place

-- the work is done, or a next call isn't there, which asks this
pub data How : Type 0 where
  Rests : How
  Wants : Option AnyAsk → How

pub record Ran : Type 0 where
  pub slots : List Slot
  pub place : Place
  pub how : How

abbrev pub is_rest : Step → Bool
is_rest (step.Call asks) = false
is_rest (step.Next left behind) = false
is_rest (step.Respond left behind) = false
is_rest step.Rest = true

abbrev pub with_slot : Slot → Ran → Ran
with_slot slot ran = record ran { slots = slot ∷ ran.slots }

-- the calls of a step and the steps behind it
abbrev pub ran : Kind → Option AnyAsk → StrNo → Step → Bool → List AnyCall → Ran
ran kind line on now linked [] =
    record {
      slots = [];
      place = record { linked = linked; left = [] };
      how = if is_rest now then Rests else Wants (asked_by kind line now);
    }
ran kind line on now linked (call ∷ calls) =
    if is_rest now
    then record { slots = []; place = record { linked = linked; left = call ∷ calls }; how = Rests }
    else with_slot (Calls on (asked_by kind line now) call)
    (ran kind line on (step_after now call.told) (link_after linked call) calls)

abbrev pub one_slot : Slot → Place → Ran
one_slot slot place = record { slots = slot ∷ []; place = place; how = Rests }

abbrev pub act_ran : StrForm → StrNo → ℕ → Act → Place → Ran
act_ran form on retry (act.Call asked) place =
    ran form.kind (Some asked) on (step.Call retry) place.linked place.left
act_ran form on retry act.Events place =
    ran form.kind None on (first_step act.Events retry) place.linked place.left
act_ran form on retry (act.Test index) place =
    one_slot (if nat_lt index form.vector then Tests on index else Outside on index false form.vector) place
act_ran form on retry (act.TestWord word) place =
    one_slot (if nat_lt (32 * word) form.vector then Words on word else Outside on word true form.vector) place
act_ran form on retry act.Post place = one_slot (Posts on) place
act_ran form on retry act.Take place = one_slot (Takes on) place

abbrev pub line_ran : Option StrForm → Line → Place → Ran
line_ran None line place = record { slots = []; place = place; how = Wants None }
line_ran (Some form) line place = act_ran form line.on line.retry line.act place

abbrev pub work_ran : List StrForm → Work → Place → Ran
work_ran forms (Does line) place = line_ran (slice_get forms line.on.0) line place
work_ran forms (Leaves kind on) place =
    if place.linked
    then ran kind (Some (shell_ask kind cmd.Disconnect)) on (step.Call 0) place.linked place.left
    else record { slots = []; place = place; how = Rests }

-- ---- works, one after another

-- all is done, or the work stops at this structure before a call that asks this
pub data End : Type 0 where
  Ends : End
  Stops : StrNo → Option AnyAsk → End

pub record Whole : Type 0 where
  pub slots : List Slot
  pub places : List Place
  pub end : End

-- behind a work that is done come the others
abbrev pub after_work : How → StrNo → List Slot → List Place → Whole → Whole
after_work Rests on slots places others =
    record { slots = slots ++ others.slots; places = others.places; end = others.end }
after_work (Wants asked) on slots places others =
    record { slots = slots; places = places; end = Stops on asked }

abbrev pub whole : List StrForm → List Work → List Place → Whole
whole forms [] places = record { slots = []; places = places; end = Ends }
whole forms (work ∷ works) places =
    let done = work_ran forms work (place_at places (work_on work)) in
    let next = slice_set places (work_on work).0 done.place in
    after_work done.how (work_on work) done.slots next (whole forms works next)

-- a caller before all its work
abbrev pub places_of : List AnyHistory → ConnId → List Place
places_of histories conn =
    map (λ entries. (let place : Place = record { linked = false; left = own_calls (any_calls entries) conn } in place))
    histories

-- the slots of a caller's transcript
abbrev pub slots_of : Script → List AnyHistory → ConnId → Whole
slots_of script histories conn = whole script.structures (works_of script conn) (places_of histories conn)

-- each call has its place
abbrev pub AreUsed : List Place → Type 0
AreUsed places = (x : ℕ) → (slice_index_or places x no_place).left ≡ []

-- what POSTs and TAKEs show is right
abbrev pub AreNotes : List AnyHistory → List Shown → Type 0
AreNotes histories items = (k : ℕ) (item : Shown) → slice_get items k ≡ Some item → IsNote histories (take k items) item

-- a transcript is what its slots say: all of it, and each of the caller's calls has its place
pub record IsFilled (script : Script) (histories : List AnyHistory) (conn : ConnId) (items : List Shown) : Type 0 where
  pub ends : (slots_of script histories conn).end ≡ Ends
  pub fills : Fills (slots_of script histories conn).slots items
  pub used : AreUsed (slots_of script histories conn).places
  pub notes : AreNotes histories items
