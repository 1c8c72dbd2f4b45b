-- What a command leaves of a list structure to which things were done before: commands, each at a capacity of its own,
-- departures, and returns.
use Rattle.std.specs.Prelude.{◌≡◌, Bool, List, [], ◌∷◌, ◌++◌, None, Some, Result, Ok, Err, fold}
use Rattle.cf_types.specs.declared.forms.Caps.{Caps}
use Rattle.cf_types.specs.declared.list_commands.ListCmd.{ListCmd}
use Rattle.cf_types.specs.declared.list_commands.ListReply.{ListReply}
use Rattle.cf_types.specs.declared.numbers.ConnId.{ConnId}
use Rattle.cf_types.specs.declared.refusals.Refusal.{Refusal}
use Rattle.engine_api.specs.declared.shapes.Shape.{Shape}
use Rattle.engine_api.specs.Meaning.{Held, StepResult, answer, step_result}
use Rattle.list_model.specs.Contents.{Content}
use Rattle.list_model.specs.Meaning.{list_meaning}
use Rattle.run_laws.specs.ListHistories.{Told}

pub data Deed : Type 0 where
  Calls : Caps → ConnId → ListCmd → Deed
  Leaves : ConnId → Bool → Deed
  Returns : ConnId → Deed

-- a command on a content, at a capacity
abbrev pub stepped : Shape → Caps → Content → ConnId → ListCmd → StepResult ListReply Content
stepped shape caps content by cmd =
    step_result list_meaning (record { shape = shape; base = caps; caps = caps; state = content }) by cmd

abbrev pub after_deed : Shape → Content → Deed → Content
after_deed shape content (Deed.Calls caps by cmd) = (stepped shape caps content by cmd).state
after_deed shape content (Deed.Leaves conn keep) = (list_meaning.leave shape content conn keep).state
after_deed shape content (Deed.Returns conn) = list_meaning.back content conn

-- an engine that was empty at first holds this after these deeds
abbrev pub IsHeldAfter : List Deed → Held Content → Type 0
IsHeldAfter deeds held = held.state ≡ fold (after_deed held.shape) (list_meaning.empty held.shape) deeds

-- what is told of a command that was replied to so
abbrev pub told_reply : ListCmd → Result ListReply Refusal → Told
told_reply cmd (Ok answer) = Some (record { command = cmd; answer = answer })
told_reply cmd (Err refusal) = None

abbrev pub told_of : Shape → Content → Deed → Told
told_of shape content (Deed.Calls caps by cmd) = told_reply cmd (stepped shape caps content by cmd).reply
told_of shape content (Deed.Leaves conn keep) = None
told_of shape content (Deed.Returns conn) = None

abbrev pub told_from : Shape → Content → List Deed → List Told
told_from shape content [] = []
told_from shape content (deed ∷ deeds) =
    told_of shape content deed ∷ told_from shape (after_deed shape content deed) deeds

-- the engine's records once it was asked this, and all that was told then
abbrev pub content_applied : Held Content → ConnId → ListCmd → Content
content_applied held by cmd = (answer list_meaning held by cmd).held.state

abbrev pub told_then : Held Content → List Deed → ConnId → ListCmd → List Told
told_then held deeds by cmd =
    told_from held.shape (list_meaning.empty held.shape) deeds
    ++ told_of held.shape held.state (Deed.Calls held.caps by cmd) ∷ []
