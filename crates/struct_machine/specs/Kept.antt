-- A machine in its parts: a shell, and the instances.
use Rattle.std.specs.Prelude.{◌≡◌, ℕ, Bool, true, false, if◌then◌else◌, is_some, IfSome, Option, None, Some, option_map}
use Rattle.cf_types.specs.declared.forms.Caps.{Caps}
use Rattle.cf_types.specs.declared.forms.StrForm.{StrForm}
use Rattle.cf_types.specs.declared.numbers.ConnId.{ConnId}
use Rattle.cf_types.specs.declared.shell_commands.ShellCmd.{ShellCmd}
use Rattle.cf_types.specs.declared.shell_commands.ShellCmd.TheVariants as cmd
use Rattle.cf_types.specs.declared.refusals.Refusal.{Refusal}
use Rattle.cf_types.specs.declared.shell_commands.ShellReply.{ShellReply}
use Rattle.cf_types.specs.Forms.{IsForm, IsFacility}
use Rattle.cf_types.specs.Gains.{Bits}
use Rattle.engine_api.specs.declared.asks.Reply.{Reply}
use Rattle.engine_api.specs.declared.asks.Reply.TheVariants as reply
use Rattle.engine_api.specs.declared.asks.Ask.{Ask}
use Rattle.engine_api.specs.declared.asks.Ask.TheVariants as ask
use Rattle.engine_api.specs.declared.deeds.Room.{Room}
use Rattle.engine_api.specs.Meaning.{Meaning, Held, Departure}
use Rattle.engine_api.specs.Machine.{Machine, CallOutcome, departure_from, room_of, call_done, unless}
use Rattle.engine_api.specs.Rebuilds.{fresh_of}
use Rattle.engine_api.specs.Shapes.{shape_of}
use Rattle.engine_api.specs.Shell.{call_cause, leaver}
use Rattle.plex_shell.specs.ShellView.{ShellView}
use Rattle.rebuild_copy.specs.Filling.{Fresh}
use Rattle.shell_laws.specs.Capacities.{fresh_caps}
use Rattle.shell_laws.specs.Filling.{IsFilled}
use Rattle.shell_laws.specs.Members.{IsManned}
use Rattle.struct_machine.specs.Content.{Kept}

-- what a call answers, and the machine that it leaves, before it counts as one that has come
abbrev pub judged : {C R I S : Type 0} → Meaning C R I S → StrForm → Machine S → ConnId → Ask C → CallOutcome R S
judged meaning form machine by asked =
    unless meaning form (call_cause form (room_of meaning form machine) machine.shell by asked) machine
    (call_done meaning form machine by asked)

-- a reply, and the machine that is left
abbrev pub answered : {R S : Type 0} → Reply R → Machine S → CallOutcome R S
answered reply machine = record { reply = reply; machine = machine }

-- only who connects to the new instance is refused by what the content needs
abbrev pub command_looks : ShellCmd → Bool
command_looks cmd.RebuildConnect = true
command_looks _ = false

abbrev pub looks_at_need : {C : Type 0} → Ask C → Bool
looks_at_need (ask.Shell command) = command_looks command
looks_at_need (ask.Content command) = false

-- COPY alone asks links among the common commands
abbrev pub is_copying : ShellCmd → Bool
is_copying (cmd.Copy n) = true
is_copying _ = false

-- how many items it names
abbrev pub items_named : ShellCmd → ℕ
items_named (cmd.Copy n) = n
items_named _ = 0

-- refused for a cause, or else told
abbrev pub copy_reply : {R : Type 0} → Option Refusal → ShellReply → Reply R
copy_reply None answer = reply.Shell answer
copy_reply (Some refusal) answer = reply.Refused refusal

-- what the instances know, without the need where nobody looks at it
abbrev pub room_seen : (looks : Bool) → Room → Room
room_seen looks room = record room { need = if looks then room.need else record { entries = 0; elements = 0 } }

-- how many items the new instance has, none where none stands
abbrev pub copied_in : Option Fresh → ℕ
copied_in None = 0
copied_in (Some fresh) = fresh.copied

-- its capacity, where it stands
abbrev pub caps_of : Option Fresh → Option Caps
caps_of fresh = option_map (λ (fresh : Fresh). fresh.caps) fresh

-- an instance, once its content is another one
abbrev pub left_in : {S : Type 0} → S → Option (Held S) → Option (Held S)
left_in {S} state held = option_map (λ (h : Held S). record h { state = state }) held

module _ {C R I S : Type 0} (meaning : Meaning C R I S) where
  -- the content; where no instance stands there is nothing in it
  abbrev pub state_in : StrForm → Option (Held S) → S
  state_in form None = meaning.empty (shape_of form)
  state_in form (Some held) = held.state

  -- its vector bits
  abbrev pub bits_in : StrForm → Option (Held S) → Bits
  bits_in form held = meaning.stands (state_in form held)

  -- the machine of a shell and of the instances
  abbrev pub machine_of : ShellView → Kept S → Machine S
  machine_of shelled kept =
      record { shell = shelled.shell; content = state_in shelled.form kept.held; copied = copied_in kept.fresh }

  -- what the instances know
  abbrev pub room_in : ShellView → Kept S → Room
  room_in shelled kept = room_of meaning shelled.form (machine_of shelled kept)

  -- who departs by a common command leaves the content first
  abbrev pub gone_by : ShellView → Kept S → ConnId → ShellCmd → Departure S
  gone_by shelled kept by command =
      departure_from meaning shelled.form (leaver shelled.shell by command) (machine_of shelled kept)

  -- what an instance holds is of the form's shape, and of this capacity
  abbrev pub IsOf : StrForm → Caps → Option (Held S) → Type 0
  IsOf form caps None = Unit {0}
  IsOf form caps (Some held) = (held.shape ≡ shape_of form) × (held.caps ≡ caps)

  -- instances are of a shell's form: they stand where the shell says so, at its capacities
  pub record AreOf (shelled : ShellView) (kept : Kept S) : Type 0 where
    pub formed : IsForm shelled.form
    pub places : kept.at ≡ shelled.shell.instances
    pub held : IsOf shelled.form shelled.shell.caps kept.held
    pub fresh : caps_of kept.fresh ≡ fresh_caps shelled.shell.rebuild
    pub fresh_at : IfSome (fresh_of shelled.shell.rebuild) IsFacility
    pub stands : is_some kept.held ≡ is_some kept.at.primary
    pub manned : IsManned shelled.shell
    pub filled : IsFilled meaning shelled.form (machine_of shelled kept)
