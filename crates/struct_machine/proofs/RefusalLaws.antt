-- What a verdict that refuses says, and what changes no refusal.
use Rattle.struct_machine.proofs.Imports.{◌≡◌, Option, Some, None, StrForm, ConnId, Refusal, ShellCmd, Ask, Room, Shell, shell_cause, call_cause, refused_or, verdict, Verdict, Refuse, Content, arith, List, [], refl, Letter, Machine, departure_from, Meaning, Leaver, leaver, with_posted, shell_done, command_looks, room_seen}

refused_for : (cause : Option Refusal) (done : Verdict) (refusal : Refusal)
    → ((r : Refusal) → done ≡ Refuse r → ⊥) → refused_or cause done ≡ Refuse refusal → Some refusal ≡ cause
refused_for cause done refusal apart e = grind arith

-- it names the first cause that holds
pub refused_call : {C : Type 0}
    (form : StrForm) (room : Room) (shell : Shell) (by : ConnId) (asked : Ask C) (refusal : Refusal)
    → verdict form room shell by asked ≡ Refuse refusal → Some refusal ≡ call_cause form room shell by asked
refused_call form room shell by (Ask.Shell command) refusal e = grind (arith, refused_for)
refused_call form room shell by (Ask.Content command) refusal e = grind (arith, refused_for)

-- ---- letters that come before a command

-- they change no refusal: a command that looks at its caller's events brings no departure
pub accepted_posted : (form : StrForm) (room : Room) (shell : Shell) (by : ConnId) (command : ShellCmd)
    (letters : List Letter) → (leaver shell by command ≡ None → letters ≡ []) → shell_cause
    form room shell by command ≡ None → shell_cause form room (with_posted letters shell) by command ≡ None
accepted_posted form room shell by command letters none accepted = grind arith

-- a departure's letters come from a departure alone
pub letters_none : {C R I S : Type 0} (meaning : Meaning C R I S) (form : StrForm) (machine : Machine S)
    (who : Option Leaver) → who ≡ None → (departure_from meaning form who machine).letters ≡ []
letters_none meaning form machine who none = rw none refl

-- ---- no call but that of a member who connects to the new instance looks at what the content needs

pub cause_seen : (form : StrForm) (room : Room) (shell : Shell) (by : ConnId) (command : ShellCmd) → shell_cause
    form (room_seen (command_looks command) room) shell by command ≡ shell_cause form room shell by command
cause_seen form room shell by command = grind arith

pub done_seen : (form : StrForm) (room : Room) (shell : Shell) (by : ConnId) (command : ShellCmd) → shell_done
    form (room_seen (command_looks command) room) shell by command ≡ shell_done form room shell by command
done_seen form room shell by command = grind arith
