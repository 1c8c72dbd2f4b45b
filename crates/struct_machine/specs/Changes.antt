-- Which vector bits a call may have changed.
use Rattle.std.specs.Prelude.{◌≡◌, ℕ, Bool, false, ◌&&◌, ◌||◌, List, [], All, is_none}
use Rattle.std.specs.List.{list_any}
use Rattle.cf_types.specs.declared.effects.BitChange.{BitChange}
use Rattle.cf_types.specs.declared.forms.StrForm.{StrForm}
use Rattle.cf_types.specs.declared.numbers.ConnId.{ConnId}
use Rattle.cf_types.specs.declared.shell_commands.ShellCmd.{ShellCmd}
use Rattle.cf_types.specs.Gains.{Bits, Gains, is_for}
use Rattle.engine_api.specs.declared.asks.Ask.{Ask}
use Rattle.engine_api.specs.declared.asks.Ask.TheVariants as ask
use Rattle.engine_api.specs.declared.deeds.Deeds.{Deeds}
use Rattle.engine_api.specs.Machine.{Machine, departure_from, room_of}
use Rattle.engine_api.specs.Meaning.{Meaning}
use Rattle.engine_api.specs.Shell.{leaver, shell_cause, shell_done, with_posted}
use Rattle.struct_machine.specs.declared.marks.Mark.{Mark}
use Rattle.struct_machine.specs.Marks.{is_failure}

-- all of them, or those that are named
pub record ChangeList : Type 0 where
  pub all : Bool
  pub bits : List BitChange
  -- the marks that the call made
  pub marks : List Mark

-- the bit is none of them
pub record IsUntouched (changed : ChangeList) (conn : ConnId) (index : ℕ) : Type 0 where
  pub not_all : changed.all ≡ false
  pub unnamed : All (λ change. is_for conn index change ≡ false) changed.bits

-- unless it is all of them, exactly the bits that changed are named, each once, with its new value
abbrev pub Names : ChangeList → Bits → Bits → Type 0
Names changed before after = changed.all ≡ false → Gains before after [] changed.bits

-- A command may change bits that aren't named where it puts a rebuild's new instance in the primary's place, or ends
-- all instances.
abbrev pub may_change_bits : Deeds → Bool
may_change_bits deeds = deeds.switch || deeds.drop_all

-- a mark says that the structure failed
abbrev pub any_failure : List Mark → Bool
any_failure marks = list_any (λ mark. is_failure mark.lost) marks

module _ {C R I S : Type 0} (meaning : Meaning C R I S) (form : StrForm) where
  -- what a common command does to the instances, where nothing refuses it
  abbrev pub deeds_by : Machine S → ConnId → ShellCmd → Deeds
  deeds_by machine by command =
      let gone = departure_from meaning form (leaver machine.shell by command) machine in
      (shell_done form (room_of meaning form machine) (with_posted gone.letters machine.shell) by command).deeds

  abbrev pub command_may_change : Machine S → ConnId → ShellCmd → Bool
  command_may_change machine by command =
      is_none (shell_cause form (room_of meaning form machine) machine.shell by command)
      && may_change_bits (deeds_by machine by command)

  -- Any bit may have changed where a mark says that the structure failed, and where a common command that nothing
  -- refuses does so by its deeds. A command on the content names its bits.
  abbrev pub may_be_any : Machine S → ConnId → Ask C → List Mark → Bool
  may_be_any machine by (ask.Shell command) marks = any_failure marks || command_may_change machine by command
  may_be_any machine by (ask.Content command) marks = any_failure marks
