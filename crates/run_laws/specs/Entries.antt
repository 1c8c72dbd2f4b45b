-- Commands on a lock structure at a capacity, one after another.
use Rattle.std.specs.Prelude.{List, [], ◌∷◌, Result}
use Rattle.cf_types.specs.declared.forms.Caps.{Caps}
use Rattle.cf_types.specs.declared.lock_commands.LockCmd.{LockCmd}
use Rattle.cf_types.specs.declared.lock_commands.LockReply.{LockReply}
use Rattle.cf_types.specs.declared.numbers.ConnId.{ConnId}
use Rattle.cf_types.specs.declared.refusals.Refusal.{Refusal}
use Rattle.engine_api.specs.declared.shapes.Shape.{Shape}
use Rattle.engine_api.specs.Meaning.{StepResult, step_result}
use Rattle.lock_model.specs.Contents.{Content}
use Rattle.lock_model.specs.Meaning.{lock_meaning}

-- what a command answers, leaves and sends
abbrev pub step_at : Caps → Shape → Content → ConnId → LockCmd → StepResult LockReply Content
step_at caps shape content by cmd =
    step_result lock_meaning (record { shape = shape; base = caps; caps = caps; state = content }) by cmd

abbrev pub replies_of : Caps → Shape → Content → List (ConnId × LockCmd) → List (Result LockReply Refusal)
replies_of caps shape content [] = []
replies_of caps shape content (command ∷ commands) =
    let step = step_at caps shape content command.0 command.1 in
    step.reply ∷ replies_of caps shape step.state commands
