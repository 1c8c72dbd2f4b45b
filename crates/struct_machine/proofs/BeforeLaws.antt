-- What comes before a command acts, and which commands make an instance.
use Rattle.struct_machine.proofs.Imports.{◌≡◌, ℕ, ◌+◌, ◌⊎◌, true, Option, None, refl, arith, not, if◌then◌else◌, is_some, is_none, min, min-le_right, StrForm, CfId, ConnId, ShellCmd, Deeds, Room, Meaning, Held, fresh_of, Shell, shell_done, leaver, rebuild_connect_outcome, Fresh, with_copied, lacking_in, Rebuild, makes_empty, makes_second, copied_in}

-- ---- the new instance before a command acts

pub copied_more : (n : ℕ) (fresh : Option Fresh) → (fresh ≡ None → n ≡ 0)
    → copied_in (with_copied n fresh) ≡ copied_in fresh + n
copied_more n fresh none = grind arith

pub same_more : (n : ℕ) → n ≡ n + 0
same_more n = omega arith

module _ {C R I S : Type 0} (meaning : Meaning C R I S) where
  pub nothing_lacks : (n : ℕ) (held : Option (Held S)) (fresh : Option Fresh) → fresh ≡ None
      → min n (lacking_in meaning held fresh) ≡ 0
  nothing_lacks n held fresh none = grind (arith, min-le_right)

-- ---- which commands make an instance, or put one in the primary's place

connect_makes : (primary place : Option CfId) → is_some (if is_none primary then place else None) ≡ true
    → not (is_some primary) ≡ true
connect_makes primary place some = grind arith

connection_makes : (form : StrForm) (shell : Shell) (by : ConnId) (rebuild : Option Rebuild) → is_some
    (rebuild_connect_outcome form shell by rebuild).deeds.make ≡ true → not (is_some (fresh_of rebuild)) ≡ true
connection_makes form shell by rebuild some = grind (arith, connect_makes)

connection_adds : (form : StrForm) (shell : Shell) (by : ConnId) (rebuild : Option Rebuild)
    → (rebuild_connect_outcome form shell by rebuild).deeds.second ≡ None
connection_adds form shell by rebuild = grind arith

unmade : {X : Type 0} (o : Option X) → o ≡ None → is_some o ≡ true → ⊥
unmade o none some = grind arith

module _ (form : StrForm) (room : Room) (shell : Shell) (by : ConnId) where
  abbrev pub deeds_of : ShellCmd → Deeds
  deeds_of command = (shell_done form room shell by command).deeds

  -- a command that makes an instance makes an empty engine for it
  pub making : (command : ShellCmd) → is_some (deeds_of command).make ≡ true → makes_empty shell command ≡ true
  making (ShellCmd.Connect keep) some = connect_makes shell.instances.primary _ some
  making ShellCmd.RebuildConnect some = connection_makes form shell by shell.rebuild some
  making ShellCmd.DuplexStart some = absurd (cc)
  making command some = grind (arith, unmade)

  -- and one that makes a second instance a copy
  pub seconding : (command : ShellCmd) → is_some (deeds_of command).second ≡ true → makes_second command ≡ true
  seconding (ShellCmd.Connect keep) some = absurd (cc)
  seconding ShellCmd.RebuildConnect some = absurd (unmade _ (connection_adds form shell by shell.rebuild) some)
  seconding ShellCmd.DuplexStart some = refl
  seconding command some = grind (arith, unmade)

abbrev pub MakesOrSwitches : Deeds → Type 0
MakesOrSwitches deeds = (is_some deeds.make ≡ true) ⊎ (deeds.switch ≡ true)

-- a second instance is made with no departure before
pub adds_quietly : (shell : Shell) (by : ConnId) (command : ShellCmd) → makes_second command ≡ true
    → leaver shell by command ≡ None
adds_quietly shell by command is = grind arith

-- what isn't there in a rebuild isn't there under one
pub none_under : {X : Type 0} (there : Option X) (rebuild : Option Rebuild) → (is_some there ≡ true → rebuild ≡ None)
    → is_some rebuild ≡ true → there ≡ None
none_under there rebuild idle under = grind arith
