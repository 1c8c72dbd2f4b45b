-- What comes of a caller's works, held against the items of its transcript.
use Rattle.std.specs.Prelude.{◌≡◌, ℕ, ◌+◌, Bool, false, MatchBool, if◌then◌else◌, ◌==◌, List, [], ◌∷◌, ◌++◌, length, filter, map, slice_get, slice_set, Option, None, Some}
use Rattle.caller_slots.specs.RunShown.CfTypes.declared.forms.Kind.{Kind}
use Rattle.caller_slots.specs.RunShown.CfTypes.declared.forms.StrForm.{StrForm}
use Rattle.caller_slots.specs.RunShown.CfTypes.declared.numbers.ConnId.{ConnId}
use Rattle.caller_slots.specs.RunShown.CfTypes.declared.numbers.StrNo.{StrNo}
use Rattle.caller_slots.specs.RunShown.CfTypes.declared.shell_commands.ShellCmd.TheVariants.{Disconnect}
use Rattle.caller_slots.specs.RunShown.PlexScript.declared.agents.Step.{Step}
use Rattle.caller_slots.specs.RunShown.PlexScript.declared.agents.Step.TheVariants as step
use Rattle.caller_slots.specs.RunShown.PlexScript.declared.asks.AnyHistory.{AnyHistory}
use Rattle.caller_slots.specs.RunShown.PlexScript.declared.scripts.AnyAsk.{AnyAsk}
use Rattle.caller_slots.specs.RunShown.PlexScript.declared.scripts.Line.{Line}
use Rattle.caller_slots.specs.RunShown.PlexScript.declared.scripts.Script.{Script}
use Rattle.caller_slots.specs.RunShown.PlexScript.declared.transcripts.Shown.{Shown}
use Rattle.caller_slots.specs.RunShown.PlexScript.Agent.{asked_by, shell_ask, step_after}
use Rattle.caller_slots.specs.RunShown.PlexScript.Heard.{AnyCall, link_after}
use Rattle.caller_slots.specs.RunShown.Kinds.{IsOfKind}
use Rattle.caller_slots.specs.Asked.{AreAsked}
use Rattle.caller_slots.specs.Works.{Work, Does, Leaves, work_on}
use Rattle.caller_slots.specs.Slots.{Place, Ran, Rests, ran, place_at, work_ran, whole, Ends, AreUsed, slots_of}
use Rattle.caller_walk.specs.Counts.{counted, count_one, no_count}
use Rattle.caller_walk.specs.Heard.{left_at}
use Rattle.caller_walk.specs.declared.counts.Count.{Count}
use Rattle.caller_walk.specs.declared.counts.Due.TheVariants as due
use Rattle.caller_walk.specs.declared.spots.Spot.{Spot}

-- ---- where a caller stands

-- at a structure: its calls that are left are those behind so many entries
abbrev pub place_of : ConnId → AnyHistory → Spot → Place
place_of conn entries spot = record { linked = spot.linked; left = left_at conn entries spot.next }

-- before all its works
abbrev pub no_spot : Spot
no_spot = record { linked = false; next = 0 }

abbrev pub places_at : ConnId → List AnyHistory → List Spot → List Place
places_at conn [] spots = []
places_at conn (entries ∷ histories) [] = []
places_at conn (entries ∷ histories) (spot ∷ spots) = place_of conn entries spot ∷ places_at conn histories spots

-- ---- one work

abbrev pub run_from : Kind → Option AnyAsk → StrNo → Step → Place → Ran
run_from kind line on now place = ran kind line on now place.linked place.left

-- a departure of a caller that is active
abbrev pub leave_ran : Kind → StrNo → Place → Ran
leave_ran kind on place =
    if place.linked
    then ran kind (Some (shell_ask kind Disconnect)) on (step.Call 0) place.linked place.left
    else record { slots = []; place = place; how = Rests }

-- it goes through: each step has its call, which asks what the step asks
pub record GoesThrough (items : List Shown) (run : Ran) (before after : Count) (place : Place) : Type 0 where
  pub rests : run.how ≡ Rests
  pub asked : AreAsked run.slots
  pub counts : after ≡ counted items before run.slots
  pub leaves : place ≡ run.place

-- a call is lacking, or one asks something else
abbrev pub BreaksOff : Ran → Type 0
BreaksOff run = run.how ≡ Rests → AreAsked run.slots → ⊥

abbrev pub IsDone : List Shown → Ran → Count → Count → Place → Bool → Type 0
IsDone items run before after place done = MatchBool done (GoesThrough items run before after place) (BreaksOff run)

-- ---- one call

pub record IsOneCall (kind : Kind) (line : Option AnyAsk) (on : StrNo) (now next : Step) (items : List Shown)
    (before after : Place) (count more : Count) : Type 0 where
  pub call : AnyCall
  pub first : before.left ≡ call ∷ after.left
  pub linked : after.linked ≡ link_after before.linked call
  pub asked : asked_by kind line now ≡ Some call.ask
  pub goes : next ≡ step_after now call.told
  pub counts : more ≡ count_one items count (due.Call on call.no)

abbrev pub IsCalled : Kind → Option AnyAsk → StrNo → Step → List Shown → Place → Place → Count → Count → Option Step
    → Type 0
IsCalled kind line on now items before after count more None = BreaksOff (run_from kind line on now before)
IsCalled kind line on now items before after count more (Some next) =
    IsOneCall kind line on now next items before after count more

-- ---- works, one after another

-- each history is one of its structure's kind
abbrev pub AreOfKinds : List StrForm → List AnyHistory → Type 0
AreOfKinds forms histories =
    (x : ℕ) (form : StrForm) (entries : AnyHistory) → slice_get forms x ≡ Some form
    → slice_get histories x ≡ Some entries → IsOfKind form.kind entries

pub record WorksThrough (forms : List StrForm) (items : List Shown) (work : Work) (places next : List Place)
    (before after : Count) : Type 0 where
  pub rests : (work_ran forms work (place_at places (work_on work))).how ≡ Rests
  pub asked : AreAsked (work_ran forms work (place_at places (work_on work))).slots
  pub counts : after ≡ counted items before (work_ran forms work (place_at places (work_on work))).slots
  pub leaves : next ≡ slice_set places (work_on work).0 (work_ran forms work (place_at places (work_on work))).place

abbrev pub IsWorkDone : List StrForm → List Shown → Work → List Place → List Place → Count → Count → Bool → Type 0
IsWorkDone forms items work places next before after done =
    MatchBool done (WorksThrough forms items work places next before after)
    (BreaksOff (work_ran forms work (place_at places (work_on work))))

pub record WholeThrough (forms : List StrForm) (items : List Shown) (works : List Work) (places : List Place)
    (before after : Count) (last : List Place) : Type 0 where
  pub ends : (whole forms works places).end ≡ Ends
  pub asked : AreAsked (whole forms works places).slots
  pub counts : after ≡ counted items before (whole forms works places).slots
  pub leaves : last ≡ (whole forms works places).places

abbrev pub WholeBreaks : List StrForm → List Work → List Place → Type 0
WholeBreaks forms works places =
    (whole forms works places).end ≡ Ends → AreAsked (whole forms works places).slots → ⊥

-- what comes of works that are left here comes of those there, whatever other works are behind them
pub record Leads (forms : List StrForm) (items : List Shown) (works left : List Work) (places next : List Place)
    (count more : Count) : Type 0 where
  pub through : (others : List Work) (after : Count) (last : List Place)
      → WholeThrough forms items (left ++ others) next more after last
      → WholeThrough forms items (works ++ others) places count after last
  pub breaks : (others : List Work) → WholeBreaks forms (left ++ others) next
      → WholeBreaks forms (works ++ others) places

abbrev pub AreDone : List StrForm → List Shown → List Work → List Place → List Place → Count → Count → Bool → Type 0
AreDone forms items works places next count more done =
    MatchBool done (Leads forms items works [] places next count more)
    ((others : List Work) → WholeBreaks forms (works ++ others) places)

abbrev pub AreAllDone : List StrForm → List Shown → List Work → List Place → List Place → Count → Count → Bool → Type 0
AreAllDone forms items works places last count more done =
    MatchBool done (WholeThrough forms items works places count more last) (WholeBreaks forms works places)

-- a departure from the structure with this number
abbrev pub IsDeparted : List StrForm → List Shown → ℕ → List Place → List Place → Count → Count → Bool → Type 0
IsDeparted forms items number places next before after done =
    (form : StrForm) → slice_get forms number ≡ Some form
    → IsWorkDone forms items (Leaves form.kind (record { 0 = number })) places next before after done

-- the lines of one caller, as works
abbrev pub own_lines : ConnId → List Line → List Work
own_lines conn lines = map Does (filter (λ line. line.by.0 == conn.0) lines)

-- ---- the whole

-- what is found of a caller: its calls don't make what its lines ask; or they do, and so many items are what is due
pub record IsWhole (script : Script) (histories : List AnyHistory) (conn : ConnId) (items : List Shown)
    (count : Count) : Type 0 where
  pub ends : (slots_of script histories conn).end ≡ Ends
  pub used : AreUsed (slots_of script histories conn).places
  pub asked : AreAsked (slots_of script histories conn).slots
  pub counts : count ≡ counted items no_count (slots_of script histories conn).slots

abbrev pub IsWalked : Script → List AnyHistory → ConnId → List Shown → Option Count → Type 0
IsWalked script histories conn items None =
    (slots_of script histories conn).end ≡ Ends → AreUsed (slots_of script histories conn).places
    → AreAsked (slots_of script histories conn).slots → ⊥
IsWalked script histories conn items (Some count) = IsWhole script histories conn items count
