-- What a command leaves of a lock structure to which things were done before: commands, each at a capacity of its own,
-- departures, and returns.
use Rattle.std.specs.Prelude.{◌≡◌, Bool, List, fold}
use Rattle.cf_types.specs.declared.forms.Caps.{Caps}
use Rattle.cf_types.specs.declared.lock_commands.LockCmd.{LockCmd}
use Rattle.cf_types.specs.declared.numbers.ConnId.{ConnId}
use Rattle.engine_api.specs.declared.shapes.Shape.{Shape}
use Rattle.engine_api.specs.Meaning.{Held, answer}
use Rattle.lock_model.specs.Contents.{Content}
use Rattle.lock_model.specs.Meaning.{lock_meaning}
use Rattle.run_laws.specs.Entries.{step_at}

pub data Deed : Type 0 where
  Calls : Caps → ConnId → LockCmd → Deed
  Leaves : ConnId → Bool → Deed
  Returns : ConnId → Deed

abbrev pub after_deed : Shape → Content → Deed → Content
after_deed shape content (Deed.Calls caps by cmd) = (step_at caps shape content by cmd).state
after_deed shape content (Deed.Leaves conn keep) = (lock_meaning.leave shape content conn keep).state
after_deed shape content (Deed.Returns conn) = lock_meaning.back content conn

-- an engine that was empty at first holds this after these deeds
abbrev pub IsHeldAfter : List Deed → Held Content → Type 0
IsHeldAfter deeds held = held.state ≡ fold (after_deed held.shape) (lock_meaning.empty held.shape) deeds

-- the interests and the waiters that the engine has once it was asked this
abbrev pub content_applied : Held Content → ConnId → LockCmd → Content
content_applied held by cmd = (answer lock_meaning held by cmd).held.state
