-- What a caller asks next of a structure, by what it was told of its calls there so far.
use Rattle.run_laws.proofs.Imports.{arith, ◌≡◌, Bool, true, false, List, [], ◌∷◌, ◌++◌, map, Option, Some, None, inl, inr, ◌⊎◌, refl, sym, ◌∙◌, Kind, Step, AnyAsk, first_step, step_after, asked_by, shell_ask, call_of, AnyCall, Line, ShellCmd}

-- the work of one line: its call, if it is one, and the step that it begins with
pub record Work : Type 0 where
  pub line : Option AnyAsk
  pub first : Step

abbrev pub work_of : Line → Work
work_of line = record { line = call_of line.act; first = first_step line.act line.retry }

-- a caller's last work at a structure: it departs
abbrev pub closing : Kind → Work
closing kind = record { line = Some (shell_ask kind ShellCmd.Disconnect); first = Step.Call 0 }

-- the works at a structure of a caller, the departure last
abbrev pub works : Kind → List Line → List Work
works kind lines = map work_of lines ++ closing kind ∷ []

-- ---- a work done

abbrev pub is_rest : Step → Bool
is_rest Step.Rest = true
is_rest _ = false

-- calls from a step on: what is asked next, or the calls that are left where the work is done
pub data Pending : Type 0 where
  Asks : Option AnyAsk → Pending
  Left : List AnyCall → Pending

module _ (kind : Kind) (line : Option AnyAsk) where
  -- these calls are what the step and those behind it ask
  abbrev pub Consumes : Step → List AnyCall → Type 0
  Consumes now [] = now ≡ Step.Rest
  Consumes now (call ∷ calls) = (asked_by kind line now ≡ Some call.ask) × Consumes (step_after now call.told) calls

  abbrev pub goes_on : Bool → Pending → List AnyCall → Pending
  goes_on true more calls = Left calls
  goes_on false more calls = more

  abbrev pub pending : Step → List AnyCall → Pending
  pending now [] = goes_on (is_rest now) (Asks (asked_by kind line now)) []
  pending now (call ∷ calls) = goes_on (is_rest now) (pending (step_after now call.told) calls) (call ∷ calls)

  moving : (now : Step) (asked : AnyAsk) → asked_by kind line now ≡ Some asked → is_rest now ≡ false
  moving now asked e = grind arith

  pending-rest : (calls : List AnyCall) → pending Step.Rest calls ≡ Left calls
  pending-rest [] = refl
  pending-rest (call ∷ calls) = refl

  -- a call of a work's or behind it is what is pending after those before it, or these leave others before it
  pub pends : (now : Step) (mine others before : List AnyCall) (call : AnyCall) (behind : List AnyCall)
      → Consumes now mine → mine ++ others ≡ before ++ call ∷ behind → (pending now before ≡ Asks (Some call.ask))
      ⊎ ((later : List AnyCall) × ((pending now before ≡ Left later) × (others ≡ later ++ call ∷ behind)))
  pends now [] others before call behind h e = inr (before, (rw h (pending-rest before), e))
  pends now (m ∷ mine) others [] call behind h e = grind (arith, moving)
  pends now (m ∷ mine) others (b ∷ before) call behind h e =
      grind (arith, moving, pends (step_after now m.told) mine others before call behind h.1 (cc))

-- ---- works one after another

-- what is asked next, if anything
abbrev pub asked_or : (List AnyCall → Option AnyAsk) → Pending → Option AnyAsk
asked_or later (Asks asked) = asked
asked_or later (Left others) = later others

abbrev pub next_ask : Kind → List Work → List AnyCall → Option AnyAsk
next_ask kind [] calls = None
next_ask kind (work ∷ more) calls = asked_or (λ others. next_ask kind more others)
    (pending kind work.line work.first calls)

-- calls are what the first of these works ask, one after another
abbrev pub Plays : Kind → List Work → List AnyCall → Type 0
Plays kind [] calls = calls ≡ []
Plays kind (work ∷ more) calls = (calls ≡ []) ⊎ ((mine : List AnyCall) × ((others : List AnyCall)
    × (calls ≡ mine ++ others) × (Consumes kind work.line work.first mine) × Plays kind more others))

nothing_before : (call : AnyCall) (xs behind : List AnyCall) → [] ≡ xs ++ call ∷ behind → ⊥
nothing_before call [] behind e = cc
nothing_before call (x ∷ xs) behind e = cc

-- the call behind some is what is asked next after these
pub next_of : (kind : Kind) (ws : List Work) (calls before : List AnyCall) (call : AnyCall) (behind : List AnyCall)
    → Plays kind ws calls → calls ≡ before ++ call ∷ behind → next_ask kind ws before ≡ Some call.ask
next_of kind [] calls before call behind plays e = absurd (nothing_before call before behind (sym plays ∙ e))
next_of kind (work ∷ more) calls before call behind (inl none) e = grind (arith, nothing_before)
next_of kind (work ∷ more) calls before call behind (inr (mine, (others, whole, consumes, rest))) e =
    elim (pends kind work.line work.first mine others before call behind consumes (sym whole ∙ e)) [
      | inl asks ↦ rw asks refl
      | inr (later, (left, is)) ↦ rw left (next_of kind more others later call behind rest is)
    ]
