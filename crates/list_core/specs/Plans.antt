-- What is got ready for a command: its reply.
use Rattle.std.specs.Prelude.{◌≡◌, ℕ, ◌<◌, false, Option, Some, None, Ok, Err, length}
use Rattle.std.specs.List.{list_any}
use Rattle.cf_types.specs.declared.forms.Caps.{Caps}
use Rattle.cf_types.specs.declared.numbers.ConnId.{ConnId}
use Rattle.cf_types.specs.declared.refusals.Refusal.{Refusal}
use Rattle.cf_types.specs.declared.list_commands.ListCmd.{ListCmd}
use Rattle.cf_types.specs.declared.list_commands.ListCmd.TheVariants.{Write, Update, Read, Move, Delete, ReadList, LockSet, LockReset, LockTest, LControls, SetLimit, Monitor, Unmonitor}
use Rattle.engine_api.specs.declared.shapes.Shape.{Shape}
use Rattle.list_model.specs.ListStore.Lists.{all_records, is_id}
use Rattle.list_model.specs.Contents.{Content}
use Rattle.list_model.specs.Commands.Write as write
use Rattle.list_model.specs.Step.{cause, reply}
use Rattle.list_core.specs.declared.plans.Plan.{Plan}
use Rattle.list_core.specs.Found.{IsFound}

-- a refused command has its refusal as the reply
abbrev pub plan_unless : Option Refusal → Content → ConnId → ListCmd → Plan
plan_unless None content by cmd = record { reply = Ok (reply content by cmd) }
plan_unless (Some refusal) content by cmd = record { reply = Err refusal }

abbrev pub plan_for : Shape → Caps → Content → ConnId → ListCmd → Plan
plan_for shape caps content by cmd = plan_unless (cause shape caps content by cmd) content by cmd

-- what a command names is there, in a structure whose vectors have so many bits
abbrev pub IsPossible : ℕ → Content → ListCmd → Type 0
IsPossible vector content (Write header head name key body adj cond) =
    (header < length content.lists)
    × (list_any (is_id (write.new_id content)) (all_records content.lists) ≡ false)
IsPossible vector content (Update at body adj version cond) = IsFound content.lists at
IsPossible vector content (Read at cond) = Unit {0}
IsPossible vector content (Move at header head key version cond) =
    IsFound content.lists at × (header < length content.lists)
IsPossible vector content (Delete at version cond) = IsFound content.lists at
IsPossible vector content (ReadList header) = Unit {0}
IsPossible vector content (LockSet lock) = lock < length content.locks
IsPossible vector content (LockReset lock) = lock < length content.locks
IsPossible vector content (LockTest lock) = Unit {0}
IsPossible vector content (LControls header) = Unit {0}
IsPossible vector content (SetLimit header n) = header < length content.limits
IsPossible vector content (Monitor header index) = index < vector
IsPossible vector content (Unmonitor header) = Unit {0}
