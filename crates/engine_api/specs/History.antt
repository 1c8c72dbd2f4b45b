-- The history of a structure: the entries of its journal, in order.
use Rattle.std.specs.Prelude.{◌≡◌, ℕ, ◌+◌, ◌≤◌, ◌<◌, ◌⊎◌, ◌==◌, Bool, nat_lt, List, [], ◌∷◌, ◌++◌, length, take, fold, filter, slice_get, Option, None, Some, Contains, map}
use Rattle.std.specs.List.{filter_map}
use Rattle.cf_types.specs.declared.forms.StrForm.{StrForm}
use Rattle.cf_types.specs.declared.numbers.CfId.{CfId}
use Rattle.cf_types.specs.declared.numbers.ConnId.{ConnId}
use Rattle.engine_api.specs.declared.asks.Ask.{Ask}
use Rattle.engine_api.specs.declared.asks.Reply.{Reply}
use Rattle.engine_api.specs.declared.asks.What.{What}
use Rattle.engine_api.specs.declared.asks.What.TheVariants as what
use Rattle.engine_api.specs.declared.histories.Entry.{Entry}
use Rattle.engine_api.specs.Meaning.{Meaning}
use Rattle.engine_api.specs.LinkAsks.{operator, links_asked, marks_of}
use Rattle.engine_api.specs.Machine.{Machine, opening, step, loss_step, entered_machine}

-- ---- calls

-- a call: its number, who called, what was asked, and the reply
pub record Call (C R : Type 0) : Type 0 where
  pub no : ℕ
  pub by : ConnId
  pub ask : Ask C
  pub reply : Reply R

-- a caller's call, and which links answer that they are down, should the call ask them
pub record Turn (C : Type 0) : Type 0 where
  pub by : ConnId
  pub ask : Ask C
  pub down : CfId → Bool

module _ {C R : Type 0} where
  -- the call that an entry tells, if it tells one
  abbrev pub call_told : ℕ → ConnId → Reply R → What C → Option (Call C R)
  call_told number by reply (what.Call ask) = Some (record { no = number; by = by; ask = ask; reply = reply })
  call_told number by reply (what.Lost cf) = None

  abbrev pub call_of : Entry C R → Option (Call C R)
  call_of entry = call_told entry.no entry.by entry.reply entry.what

  abbrev pub calls : List (Entry C R) → List (Call C R)
  calls history = filter_map call_of history

  -- the calls of one caller, in order
  abbrev pub own : List (Entry C R) → ConnId → List (Call C R)
  own history conn = filter (λ call. call.by.0 == conn.0) (calls history)

  -- the numbers of the calls
  abbrev pub numbers : List (Entry C R) → List ℕ
  numbers history = map (λ call. call.no) (calls history)

  -- the number of a call of the history, or 0
  abbrev pub IsPoint : List (Entry C R) → ℕ → Type 0
  IsPoint history n = (n ≡ 0) ⊎ Contains (numbers history) n

  -- the number of the last call below a number, 0 if there is none
  abbrev pub last_number : ℕ → Call C R → ℕ
  last_number so_far call = call.no

  abbrev pub last_call_below : List (Entry C R) → ℕ → ℕ
  last_call_below history n = fold last_number 0 (filter (λ call. nat_lt call.no n) (calls history))

  -- What the numbers of calls have to do with a history's length: none is past it, nor is the last call below any
  -- number; the last call below a number past it is its end; and the last call up to a call's number is that call.
  pub record IsNumbered (history : List (Entry C R)) : Type 0 where
    pub within : (n : ℕ) → IsPoint history n → n ≤ length history
    pub below : (n : ℕ) → last_call_below history n ≤ length history
    pub ended : (n : ℕ) → length history < n → last_call_below history n ≡ length history
    pub points : (n : ℕ) → IsPoint history n → last_call_below history (n + 1) ≡ n

-- ---- what a history leads to

module _ {C R I S : Type 0} (meaning : Meaning C R I S) (form : StrForm) where
  -- the machine after one more entry
  abbrev pub after_what : Machine S → ConnId → What C → Machine S
  after_what machine by (what.Call ask) = (step meaning form machine by ask).machine
  after_what machine by (what.Lost cf) = (loss_step meaning form machine cf).machine

  abbrev pub machine_after : Machine S → Entry C R → Machine S
  machine_after machine entry = after_what machine entry.by entry.what

  -- the machine after the entries of a history
  abbrev pub replay : List (Entry C R) → Machine S
  replay history = fold machine_after (opening meaning form) history

  -- the reply to a caller's next call
  abbrev pub next_reply : List (Entry C R) → ConnId → Ask C → Reply R
  next_reply history by ask = (step meaning form (replay history) by ask).reply

  -- ---- one entry more

  abbrev pub next_mark : List (Entry C R) → CfId → Entry C R
  next_mark history cf =
      record {
        no = length history + 1;
        by = operator;
        what = what.Lost cf;
        reply = (loss_step meaning form (replay history) cf).reply;
      }

  abbrev pub next_entry : List (Entry C R) → ConnId → Ask C → Entry C R
  next_entry history by ask =
      record { no = length history + 1; by = by; what = what.Call ask; reply = next_reply history by ask }

  abbrev pub with_mark : List (Entry C R) → CfId → List (Entry C R)
  with_mark history cf = history ++ next_mark history cf ∷ []

  -- a call before which no mark stands
  abbrev pub with_call : List (Entry C R) → ConnId → Ask C → List (Entry C R)
  with_call history by ask = history ++ next_entry history by ask ∷ []

  -- such a call leaves the machine as it was, but for that a call has come
  abbrev pub OnlyEnters : List (Entry C R) → ConnId → Ask C → Type 0
  OnlyEnters history by ask = replay (with_call history by ask) ≡ entered_machine (replay history)

  -- ---- one call more, behind the marks of the links that are down

  abbrev pub with_marks : List (Entry C R) → List CfId → List (Entry C R)
  with_marks history marks = fold with_mark history marks

  abbrev pub marks_by : (CfId → Bool) → List (Entry C R) → ConnId → Ask C → List CfId
  marks_by down history by ask = marks_of down (links_asked meaning form (replay history) by ask)

  abbrev pub next : (CfId → Bool) → List (Entry C R) → ConnId → Ask C → List (Entry C R)
  next down history by ask = with_call (with_marks history (marks_by down history by ask)) by ask

  abbrev pub after_turn : List (Entry C R) → Turn C → List (Entry C R)
  after_turn history turn = next turn.down history turn.by turn.ask

  -- a history is legal where some calls and some answers of the links make it
  pub record IsLegal (history : List (Entry C R)) : Type 0 where
    pub turns : List (Turn C)
    pub made : history ≡ fold after_turn [] turns

  -- ---- entry by entry

  -- an entry is the next one of a history
  abbrev pub IsNextAs : List (Entry C R) → Entry C R → What C → Type 0
  IsNextAs history entry (what.Call ask) = entry ≡ next_entry history entry.by ask
  IsNextAs history entry (what.Lost cf) = entry ≡ next_mark history cf

  abbrev pub IsNext : List (Entry C R) → Entry C R → Type 0
  IsNext history entry = IsNextAs history entry entry.what

  -- each entry is the next one of those before it
  abbrev pub IsEachNext : List (Entry C R) → Type 0
  IsEachNext history =
      (i : ℕ) (entry : Entry C R) → slice_get history i ≡ Some entry → IsNext (take i history) entry

  -- the same: what may follow a history
  abbrev pub Continues : List (Entry C R) → List (Entry C R) → Type 0
  Continues history [] = Unit {0}
  Continues history (entry ∷ entries) = IsNext history entry × Continues (history ++ entry ∷ []) entries

  -- the bit of a connector's vector, after the entries of a history
  abbrev pub stands_after : List (Entry C R) → ConnId → ℕ → Bool
  stands_after history conn index = meaning.stands (replay history).content conn index

  -- a test of a bit that answers with the number n, by a connector that has seen the calls up to q complete: what
  -- stood at the call n; or, where n is a call that it hasn't seen complete, what stood before that call
  pub record Tells (history : List (Entry C R)) (n q : ℕ) (conn : ConnId) (index : ℕ) (bit : Bool) : Type 0 where
    pub point : IsPoint history n
    pub seen : q ≤ n
    pub stood : (bit ≡ stands_after (take n history) conn index)
        ⊎ ((q < n) × (bit ≡ stands_after (take (last_call_below history n) history) conn index))
