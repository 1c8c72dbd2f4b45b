-- What a command leaves of a cache to which things were done before: commands, each at a capacity of its own,
-- departures, and ends of registrations.
use Rattle.std.specs.Prelude.{◌≡◌, ℕ, List, [], ◌∷◌, ◌++◌, Some, None}
use Rattle.cf_types.specs.declared.cache_commands.CacheCmd.{CacheCmd}
use Rattle.cf_types.specs.declared.names.Name16.{Name16}
use Rattle.cf_types.specs.declared.numbers.ConnId.{ConnId}
use Rattle.engine_api.specs.Meaning.{Held, answer}
use Rattle.cache_model.specs.CacheRegs.Registrations.{registered_at}
use Rattle.cache_model.specs.Contents.{Content, no_content}
use Rattle.cache_model.specs.Meaning.{cache_meaning}
use Rattle.cache_model.specs.Rows.{row_of}
use Rattle.cache_model.specs.Runs.{Deed, Copies, after_run, copies_run, copy_in}
use Rattle.cache_model.specs.Runs.Deed.{Calls}
use Rattle.cache_model.specs.Uncast.{Uncasts, Kept, uncast_run}

-- an engine that was empty at first holds this after these deeds
abbrev pub IsHeldAfter : List Deed → Held Content → Type 0
IsHeldAfter deeds held = held.state ≡ after_run held.shape.vector no_content deeds

-- the directory and the registrations that the engine has once it was asked this
abbrev pub content_applied : Held Content → ConnId → CacheCmd → Content
content_applied held by cmd = (answer cache_meaning held by cmd).held.state

-- what each connector then has a copy of at each index, having had these copies when nothing was done yet
abbrev pub copies_then : Held Content → Copies → List Deed → ConnId → CacheCmd → Copies
copies_then held copies deeds by cmd =
    copies_run held.shape.vector no_content copies (deeds ++ Calls held.caps by cmd ∷ [])

-- what is then written as changed and not cast out yet
abbrev pub uncast_then : Held Content → List Deed → ConnId → CacheCmd → Uncasts
uncast_then held deeds by cmd =
    uncast_run held.shape.vector no_content (λ name. None) (deeds ++ Calls held.caps by cmd ∷ [])

-- at each index where a connector is registered for a name, it has a copy of what the name's row has
abbrev pub AreFresh : Content → Copies → Type 0
AreFresh content copies =
    (conn : ConnId) (index : ℕ) (name : Name16) → registered_at content.regs conn index ≡ Some name
    → copies conn index ≡ copy_in content.rows name

-- each name whose changed WRITE isn't cast out has a changed row, with what was written
abbrev pub AreKept : Content → Uncasts → Type 0
AreKept content uncast = (name : Name16) → Kept (row_of name content.rows) (uncast name)
