-- What commands, departures and items mean where the capacity can be altered: a function of what they mean where it
-- can't.
use Rattle.std.specs.Prelude.{ℕ, ◌+◌, ◌-◌, ◌≤◌, min, ◌==◌, ◌&&◌, Bool, true, false, nat_lt, nat_le, if◌then◌else◌, is_none, List, ◌∷◌, [], Option, None, Some}
use Rattle.cf_types.specs.declared.forms.Caps.{Caps}
use Rattle.cf_types.specs.declared.forms.Kind.{Kind}
use Rattle.cf_types.specs.declared.numbers.ConnId.{ConnId}
use Rattle.cf_types.specs.declared.refusals.Refusal.{Refusal}
use Rattle.cf_types.specs.declared.refusals.Refusal.TheVariants as refusal
use Rattle.engine_api.specs.declared.shapes.Shape.{Shape}
use Rattle.engine_api.specs.Instances.{units_of}
use Rattle.engine_api.specs.Meaning.{Meaning, Outcome, Departure, first_refusal}
use Rattle.engine_api.specs.Shell.{refusal_when, if_too_small}
use Rattle.cf_types.specs.declared.alter_commands.AlterCmd.{AlterCmd}
use Rattle.cf_types.specs.declared.alter_commands.AlterCmd.TheVariants as alter
use Rattle.cf_types.specs.declared.alter_commands.AlterReply.{AlterReply}
use Rattle.cf_types.specs.declared.alter_commands.AlterReply.TheVariants as answer
use Rattle.alter_model.specs.declared.contents.AlterContent.{AlterContent}

-- the limits, where there are some, or else the capacity
abbrev pub caps_or : Option Caps → Caps → Caps
caps_or None caps = caps
caps_or (Some limits) caps = limits

-- a number nearer to another, by n at most
abbrev pub toward : (n from to : ℕ) → ℕ
toward n from to =
    if nat_le (to - from) n && nat_le (from - to) n then to else if nat_lt from to then from + n else from - n

abbrev pub caps_toward : ℕ → (from to : Caps) → Caps
caps_toward n from to =
    record { entries = toward n from.entries to.entries; elements = toward n from.elements to.elements }

abbrev pub is_same : (caps other : Caps) → Bool
is_same caps other = caps.entries == other.entries && caps.elements == other.elements

-- a capacity takes no more units than these, where there is one
abbrev pub IsWithin : ℕ → Option Caps → Type 0
IsWithin units None = Unit {0}
IsWithin units (Some caps) = units_of caps ≤ units

-- a target takes more units than there are
abbrev pub if_beyond : (asked units : ℕ) → Option Refusal
if_beyond asked units = refusal_when (nat_lt units asked) (refusal.BeyondUnits (min asked 4294967295) units)

-- a step is judged by what it comes to
abbrev pub step_cause : Kind → (need caps : Caps) → ℕ → Option Caps → Option Refusal
step_cause kind need caps n None = Some refusal.NoAlter
step_cause kind need caps n (Some target) = first_refusal (if_too_small kind need (caps_toward n caps target))

-- what is left of a target at these limits
abbrev pub target_at : (limits target : Caps) → Option Caps
target_at limits target = if is_same limits target then None else Some target

abbrev pub step_done : {R S : Type 0} → (caps : Caps) → ℕ → AlterContent S → Option Caps
    → Outcome (AlterReply R) (AlterContent S)
step_done caps n content None = record { reply = answer.Ok; state = content; letters = [] }
step_done caps n content (Some target) =
    let limits = caps_toward n (caps_or content.limits caps) target in
    record {
      reply = answer.Altered limits (is_same limits target);
      state = record content { limits = Some limits; target = target_at limits target };
      letters = [];
    }

-- the command is no command on the content
abbrev pub alters : {C : Type 0} → AlterCmd C → Bool
alters (alter.Inner cmd) = false
alters (alter.Start target) = true
alters (alter.Step n) = true
alters alter.Stop = true

-- a content of the inner kind at the limits, and neither these nor the target take more units than the capacity
pub record IsAltered {S : Type 0} (IsContent : Shape → Caps → S → Type 0) (shape : Shape) (caps : Caps)
    (content : AlterContent S) : Type 0 where
  pub inner : IsContent shape (caps_or content.limits caps) content.inner
  pub limits : IsWithin (units_of caps) content.limits
  pub target : IsWithin (units_of caps) content.target

module _ {C R I S : Type 0} (inner : Meaning C R I S) where
  abbrev pub need_of : Shape → AlterContent S → Caps
  need_of shape content = inner.need (inner.items shape content.inner)

  abbrev pub alter_cause : Shape → Caps → AlterContent S → ConnId → AlterCmd C → Option Refusal
  alter_cause shape caps content by (alter.Inner cmd) =
      inner.cause shape (caps_or content.limits caps) content.inner by cmd
  alter_cause shape caps content by (alter.Start target) =
      first_refusal
      (if_beyond (units_of target) (units_of caps) ∷ if_too_small shape.kind (need_of shape content) target)
  alter_cause shape caps content by (alter.Step n) =
      step_cause shape.kind (need_of shape content) (caps_or content.limits caps) n content.target
  alter_cause shape caps content by alter.Stop = if is_none content.target then Some refusal.NoAlter else None

  abbrev pub inner_done : AlterContent S → Outcome R S → Outcome (AlterReply R) (AlterContent S)
  inner_done content outcome =
      record {
        reply = answer.Inner outcome.reply;
        state = record content { inner = outcome.state };
        letters = outcome.letters;
      }

  abbrev pub alter_done : Shape → Caps → AlterContent S → ConnId → AlterCmd C
      → Outcome (AlterReply R) (AlterContent S)
  alter_done shape caps content by (alter.Inner cmd) =
      inner_done content (inner.done shape (caps_or content.limits caps) content.inner by cmd)
  alter_done shape caps content by (alter.Start target) =
      record { reply = answer.Ok; state = record content { target = Some target }; letters = [] }
  alter_done shape caps content by (alter.Step n) = step_done caps n content content.target
  alter_done shape caps content by alter.Stop =
      record { reply = answer.Ok; state = record content { target = None }; letters = [] }

  abbrev pub inner_left : AlterContent S → Departure S → Departure (AlterContent S)
  inner_left content departure =
      record { state = record content { inner = departure.state }; letters = departure.letters }

  abbrev pub unaltered : S → AlterContent S
  unaltered state = record { inner = state; limits = None; target = None }

  abbrev pub alter_meaning : Meaning (AlterCmd C) (AlterReply R) I (AlterContent S)
  alter_meaning =
      record {
        empty = λ shape. unaltered (inner.empty shape);
        cause = alter_cause;
        done = alter_done;
        leave = λ shape content conn keep. inner_left content (inner.leave shape content.inner conn keep);
        back = λ content conn. record content { inner = inner.back content.inner conn };
        forget = λ content. unaltered (inner.forget content.inner);
        stands = λ content conn index. inner.stands content.inner conn index;
        items = λ shape content. inner.items shape content.inner;
        place = λ shape content item. record content { inner = inner.place shape content.inner item };
        unplace = λ shape content. record content { inner = inner.unplace shape content.inner };
        need = inner.need;
      }
