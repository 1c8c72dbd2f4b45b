-- What the commands, departures and vector bits of an engine mean.
use Rattle.std.specs.Prelude.{ℕ, Bool, List, [], ◌∷◌, Option, None, Some, Result, Ok, Err}
use Rattle.cf_types.specs.declared.forms.Caps.{Caps}
use Rattle.cf_types.specs.declared.events.Letter.{Letter}
use Rattle.cf_types.specs.declared.numbers.ConnId.{ConnId}
use Rattle.cf_types.specs.declared.refusals.Refusal.{Refusal}
use Rattle.engine_api.specs.declared.shapes.Shape.{Shape}

-- what a command that isn't refused answers, leaves and sends
pub record Outcome (R S : Type 0) : Type 0 where
  pub reply : R
  pub state : S
  pub letters : List Letter

-- what a departure leaves and sends
pub record Departure (S : Type 0) : Type 0 where
  pub state : S
  pub letters : List Letter

-- commands C, replies R, items I and contents S. A command is two columns: the first refusal that holds, and what the
-- command does where none holds
pub record Meaning (C R I S : Type 0) : Type 0 where
  pub empty : Shape → S
  pub cause : Shape → Caps → S → ConnId → C → Option Refusal
  pub done : Shape → Caps → S → ConnId → C → Outcome R S
  pub leave : Shape → S → ConnId → Bool → Departure S
  pub back : S → ConnId → S
  pub forget : S → S
  pub stands : S → ConnId → ℕ → Bool
  pub items : Shape → S → List I
  pub place : Shape → S → I → S
  pub unplace : Shape → S → S
  pub need : List I → Caps

-- the first refusal of a list of causes, in their order
abbrev pub first_refusal : List (Option Refusal) → Option Refusal
first_refusal [] = None
first_refusal (None ∷ causes) = first_refusal causes
first_refusal (Some refusal ∷ causes) = Some refusal

-- the reply to a command, and what it leaves and sends
pub record StepResult (R S : Type 0) : Type 0 where
  pub reply : Result R Refusal
  pub state : S
  pub letters : List Letter

-- a refused command changes nothing and sends nothing
abbrev pub unless_refused : {R S : Type 0} → Option Refusal → S → Outcome R S → StepResult R S
unless_refused None state outcome = record {
  reply = Ok outcome.reply;
  state = outcome.state;
  letters =
      outcome.letters;
}
unless_refused (Some refusal) state outcome = record { reply = Err refusal; state = state; letters = [] }

-- what an engine holds: its shape, the capacity that it was made with, its capacity now, and its content
pub record Held (S : Type 0) : Type 0 where
  pub shape : Shape
  pub base : Caps
  pub caps : Caps
  pub state : S

-- the reply to a command, and what the engine holds then
pub record Answer (R S : Type 0) : Type 0 where
  pub reply : Result R Refusal
  pub held : Held S

-- what an engine can be ready for
pub data Wish (C : Type 0) : Type 0 where
  ForCmd : ConnId → C → Wish C
  ForLeave : ConnId → Wish C
  ForForget : Wish C

module _ {C R I S : Type 0} (meaning : Meaning C R I S) where
  -- the step of a command
  abbrev pub step_result : Held S → ConnId → C → StepResult R S
  step_result held by cmd =
      unless_refused (meaning.cause held.shape held.caps held.state by cmd) held.state
      (meaning.done held.shape held.caps held.state by cmd)

  -- an engine with nothing in it
  abbrev pub new_held : Shape → Caps → Held S
  new_held shape caps = record { shape = shape; base = caps; caps = caps; state = meaning.empty shape }

  abbrev pub answer : Held S → ConnId → C → Answer R S
  answer held by cmd =
      let step = step_result held by cmd in record { reply = step.reply; held = record held { state = step.state } }

  abbrev pub letters_of : Held S → ConnId → C → List Letter
  letters_of held by cmd = (step_result held by cmd).letters

  -- after a departure, with the interests that last kept or not
  abbrev pub departure : Held S → ConnId → Bool → Departure S
  departure held conn keep = meaning.leave held.shape held.state conn keep

  abbrev pub with_departure : Held S → ConnId → Bool → Held S
  with_departure held conn keep = record held { state = (departure held conn keep).state }

  -- a failed connection is taken up again
  abbrev pub with_back : Held S → ConnId → Held S
  with_back held conn = record held { state = meaning.back held.state conn }

  -- registrations end
  abbrev pub with_forgotten : Held S → Held S
  with_forgotten held = record held { state = meaning.forget held.state }

  abbrev pub stands_in : Held S → ConnId → ℕ → Bool
  stands_in held conn index = meaning.stands held.state conn index

  abbrev pub items_of : Held S → List I
  items_of held = meaning.items held.shape held.state

  -- one item more, behind the others
  abbrev pub with_item : Held S → I → Held S
  with_item held item = record held { state = meaning.place held.shape held.state item }

  -- without the last item
  abbrev pub without_last_item : Held S → Held S
  without_last_item held = record held { state = meaning.unplace held.shape held.state }
