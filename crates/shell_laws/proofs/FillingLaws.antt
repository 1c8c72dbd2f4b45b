-- The new instance has items in COPY alone, and no more than there are; and what leaves some leaves the content.
use Rattle.shell_laws.proofs.Imports.{◌≡◌, ℕ, ◌≤◌, ◌⊎◌, inl, inr, Bool, true, false, List, length, Option, None, Some, refl, arith, ◌||◌, min-le_right, StrForm, CfId, ConnId, Ask, Entry, What, after_what, replay, Machine, items_of, loss_step, room_of, step, Meaning, shape_of, content_cause, is_drop, is_restart, Rebuild, IsFilled, IsFilling, IsManned}
use Rattle.shell_laws.proofs.MemberLaws.{content_waits, kept-manned, sound_of}
use Rattle.shell_laws.proofs.ShellMoves.Move.{Copies}
use Rattle.shell_laws.proofs.ShellMoves.{Allows, Move, Standing, copied_of, deeds_of, moved, standing_of}
use Rattle.shell_laws.proofs.{LossLaws.loss-cases, MoveLaws.Past, MoveLaws.kept-call}

-- a departure in COPY empties the new instance, or drops it with the rebuild
pub departure_empties : (before after : Option Rebuild) (all : Bool) → IsFilling before
    → (is_restart before after || (false || (is_drop before after || all))) ≡ true
departure_empties before after all filling = grind arith

-- and so does the forcing of a connection
pub forced_empties : (rebuild : Option Rebuild) (all : Bool) → IsFilling rebuild
    → (is_restart rebuild rebuild || (false || (false || all))) ≡ true
forced_empties rebuild all filling = grind arith

module _ {C R I S : Type 0} (meaning : Meaning C R I S) (form : StrForm) (machine : Machine S)
    (manned : IsManned machine.shell) (filled : IsFilled meaning form machine) where
  abbrev s : Standing
  s = standing_of machine.shell

  -- there are no items in the new instance; or it is being filled, and the content is as it was
  abbrev Fills : Standing → S → ℕ → Type 0
  Fills s content copied = ((copied ≡ 0) ⊎ IsFilling s.rebuild)
      × ((copied ≡ 0) ⊎ (content ≡ machine.content)) × (copied ≤ length (meaning.items (shape_of form) content))

  abbrev Behind : Move → Type 0
  Behind move = Past meaning form Fills machine move

  empty : (s : Standing) (content : S) (copied : ℕ) → copied ≡ 0 → Fills s content copied
  empty s content copied none = (inl none, inl none, omega (arith, none))

  low : machine.copied ≤ length (items_of meaning form machine)
  low = filled.within

  fills-move : (move : Move) → Allows form (room_of meaning form machine) s move → Behind move
  fills-move (Copies n) may = (grind (arith, low, min-le_right))
  fills-move move may = grind (arith, Move, Allows, copied_of, empty, moved, deeds_of)

  -- a command on the content that is accepted finds no items in the new instance
  none_copied : (by : ConnId) → content_cause machine.shell by ≡ None → machine.copied ≡ 0
  none_copied by accepted = grind (arith, never)
    where
      never : (rebuild : Option Rebuild) → machine.shell.rebuild ≡ rebuild → IsFilling rebuild → ⊥
      never None is filling = filling
      never (Some rebuild) is filling =
          content_waits machine.shell rebuild by manned is (rw (filling.0) refl) accepted

  fills-step : (by : ConnId) (asked : Ask C) → let after = (step meaning form machine by asked).machine in
      Fills (standing_of after.shell) after.content after.copied
  fills-step = kept-call meaning form Fills machine manned.places
      (sound_of machine.shell manned) fills-move (filled.filling, inr refl, low) (grind (arith, none_copied))

-- ---- calls, marks and histories

module _ {C R I S : Type 0} (meaning : Meaning C R I S) (form : StrForm) where
  pub filled-step : (machine : Machine S) (by : ConnId) (asked : Ask C) → IsManned machine.shell
      → IsFilled meaning form machine → IsFilled meaning form (step meaning form machine by asked).machine
  filled-step machine by asked manned filled = grind (arith, fills-step)

  pub front-step : (machine : Machine S) (by : ConnId) (asked : Ask C) → IsManned machine.shell
      → IsFilled meaning form machine → ((step meaning form machine by asked).machine.copied ≡ 0)
      ⊎ ((step meaning form machine by asked).machine.content ≡ machine.content)
  front-step machine by asked manned filled = (fills-step meaning form machine manned filled by asked).1

  pub filled-loss : (machine : Machine S) (cf : CfId) → IsFilled meaning form machine
      → IsFilled meaning form (loss_step meaning form machine cf).machine
  filled-loss machine cf filled = grind (arith, loss-cases)

  pub front-loss : (machine : Machine S) (cf : CfId) → ((loss_step meaning form machine cf).machine.copied ≡ 0)
      ⊎ ((loss_step meaning form machine cf).machine.content ≡ machine.content)
  front-loss machine cf = grind (arith, loss-cases)

  filled-after : (machine : Machine S) (by : ConnId) (told : What C) → IsManned machine.shell
      → IsFilled meaning form machine → IsFilled meaning form (after_what meaning form machine by told)
  filled-after machine by told manned filled = grind (arith, filled-step, filled-loss)

  pub filled-replay : (history : List (Entry C R)) → IsFilled meaning form (replay meaning form history)
  filled-replay history = (kept-manned meaning form (λ machine. IsFilled meaning form machine)
      filled-after history (record { filling = inl refl; within = omega arith })).1
