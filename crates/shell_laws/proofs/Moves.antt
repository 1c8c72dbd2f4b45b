-- What an entry does to a content.
use Rattle.shell_laws.proofs.Imports.{◌≡◌, Bool, false, ◌&&◌, None, Some, StrForm, ConnId, ShellCmd, Reply, What, Machine, Meaning, shape_of, Leaver, leaver, accepted_as, Ask, stands_in}

module _ {C R I S : Type 0} (meaning : Meaning C R I S) (form : StrForm) where
  -- what an entry that does no command on the content leaves of it: the same, the same without one connector, or with
  -- one that came back, the same without registrations, or nothing, where no instance stands before it or after it
  pub data Move (before after : Machine S) (by : ConnId) (told : What C) : Type 0 where
    Same : after.content ≡ before.content → Move before after by told
    Left : (who : Leaver) (command : ShellCmd) → told ≡ What.Call (Ask.Shell command) → leaver before.shell
        by command ≡ Some who → after.content ≡ (meaning.leave (shape_of form) before.content who.conn who.keep).state
        → Move before after by told
    Returned : (keep : Bool) → told ≡ What.Call (Ask.Shell (ShellCmd.Connect keep))
        → after.content ≡ meaning.back before.content by → Move before after by told
    Forgotten : after.content ≡ meaning.forget before.content → Move before after by told
    Cleared : after.content ≡ meaning.empty (shape_of form) → stands_in before && stands_in after ≡ false
        → Move before after by told

  -- what an entry does to the content
  pub data Change (before after : Machine S) (by : ConnId) (told : What C) (answer : Reply R) : Type 0 where
    Done : (command : C) → accepted_as told answer ≡ Some (record {
      command = command;
      answer = (meaning.done (shape_of form) before.shell.caps before.content by command).reply;
    }) → meaning.cause (shape_of form) before.shell.caps before.content by command ≡ None
        → after.content ≡ (meaning.done (shape_of form) before.shell.caps before.content by command).state
        → Change before after by told answer
    Quiet : accepted_as told answer ≡ None → Move before after by told → Change before after by told answer
