-- The version of a record, read off what was done one after another.
use Rattle.std.specs.Prelude.{◌≡◌, ℕ, ◌+◌, ◌==◌, ◌&&◌, Bool, IsTrue, true, false, List, ◌∷◌, ◌++◌, None, Some, length, filter}
use Rattle.std.specs.List.{list_any}
use Rattle.cf_types.specs.declared.list_commands.ListCmd.{ListCmd}
use Rattle.cf_types.specs.declared.list_commands.ListCmd.TheVariants.{Write, Update}
use Rattle.cf_types.specs.declared.list_commands.ListReply.{ListReply}
use Rattle.cf_types.specs.declared.list_commands.ListReply.TheVariants as replies
use Rattle.cf_types.specs.declared.numbers.EntryId.{EntryId}
use Rattle.list_model.specs.ListStore.Record.{Record}
use Rattle.list_model.specs.ListStore.Lists.{Lists, record_of}
use Rattle.run_laws.specs.ListHistories.{Told}

abbrev pub is_write : ListCmd → Bool
is_write (Write header head name key body adj cond) = true
is_write _ = false

abbrev pub is_update : ListCmd → Bool
is_update (Update at body adj version cond) = true
is_update _ = false

-- the reply is this id
abbrev pub answers : EntryId → ListReply → Bool
answers id (replies.Id other) = other.0 == id.0
answers id _ = false

-- a command of this sort was accepted, and answered this id
abbrev pub tells : (ListCmd → Bool) → EntryId → Told → Bool
tells is id None = false
tells is id (Some done) = is done.command && answers id done.answer

-- an accepted WRITE made a record with this id
abbrev pub makes : EntryId → Told → Bool
makes id told = tells is_write id told

-- an accepted UPDATE changed the record with this id
abbrev pub updates : EntryId → Told → Bool
updates id told = tells is_update id told

-- the last WRITE that answered this id, and as many UPDATEs that did after it as the version is greater than 1
pub record IsVersioned (told : List Told) (id : EntryId) (found : ℕ) : Type 0 where
  pub before : List Told
  pub write : Told
  pub since : List Told
  pub split : told ≡ before ++ write ∷ since
  pub made : IsTrue (makes id write)
  pub last : list_any (makes id) since ≡ false
  pub version : found ≡ 1 + length (filter (updates id) since)

-- the version of each record is the one that was told of it
abbrev pub AreVersioned : List Told → Lists → Type 0
AreVersioned told lists =
    (id : EntryId) (rec : Record) → record_of id lists ≡ Some rec → IsVersioned told id rec.version
