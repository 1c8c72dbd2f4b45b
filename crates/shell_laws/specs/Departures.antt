-- Entries that do no command on the content: a connector departs, comes back, or nothing stands.
use Rattle.std.specs.Prelude.{◌≡◌, Bool, false, ◌&&◌, is_some, List, [], ◌∷◌, ◌++◌, None, Some}
use Rattle.cf_types.specs.declared.forms.StrForm.{StrForm}
use Rattle.cf_types.specs.declared.shell_commands.ShellCmd.{ShellCmd}
use Rattle.cf_types.specs.declared.shell_commands.ShellCmd.TheVariants as cmd
use Rattle.engine_api.specs.declared.asks.Ask.TheVariants as ask
use Rattle.engine_api.specs.declared.asks.What.TheVariants as what
use Rattle.engine_api.specs.declared.histories.Entry.{Entry}
use Rattle.engine_api.specs.History.{replay}
use Rattle.engine_api.specs.Machine.{Machine}
use Rattle.engine_api.specs.Meaning.{Meaning}
use Rattle.engine_api.specs.Shell.{Leaver, leaver}
use Rattle.shell_laws.specs.Accepted.{accepted_as}

-- an instance stands
abbrev pub stands_in : {S : Type 0} → Machine S → Bool
stands_in machine = is_some machine.shell.instances.primary

module _ {C R I S : Type 0} (meaning : Meaning C R I S) (form : StrForm) where
  -- the entry does no command on the content
  abbrev pub IsQuiet : Entry C R → Type 0
  IsQuiet entry = accepted_as entry.what entry.reply ≡ None

  -- the entry is one by which a connector departs
  pub record IsDeparture (history : List (Entry C R)) (entry : Entry C R) (who : Leaver) : Type 0 where
    pub command : ShellCmd
    pub asked : entry.what ≡ what.Call (ask.Shell command)
    pub leaves : leaver (replay meaning form history).shell entry.by command ≡ Some who

  -- the caller of the entry comes back
  pub record IsReturn (entry : Entry C R) : Type 0 where
    pub keep : Bool
    pub asked : entry.what ≡ what.Call (ask.Shell (cmd.Connect keep))

  -- no instance stands before the entry, or none behind it
  abbrev pub IsGone : (history : List (Entry C R)) → Entry C R → Type 0
  IsGone history entry =
      stands_in (replay meaning form history) && stands_in (replay meaning form (history ++ entry ∷ [])) ≡ false
