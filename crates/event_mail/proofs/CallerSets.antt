-- How letters to a set of callers are posted.
use Rattle.event_mail.proofs.Imports.{◌≡◌, ℕ, ◌+◌, ◌-◌, ◌<◌, ◌≤◌, Bool, true, false, List, [], ◌∷◌, filter, arith, CALLERS, Event, ConnId, conns_from, is_member, Mailboxes, with_letter, with_letters, letters_to}

-- the members from this number on
abbrev pub members_from : List ConnId → ℕ → List ConnId
members_from set number = filter (λ conn. is_member conn set) (conns_from number (CALLERS - number))

-- of these, where a member or not comes first
abbrev members_at : Bool → List ConnId → ℕ → List ConnId
members_at true set number = record { 0 = number } ∷ members_from set (number + 1)
members_at false set number = members_from set (number + 1)

-- one of them is the first, where it is a member
members_from-first : (set : List ConnId) (number : ℕ) → number < CALLERS
    → members_from set number ≡ members_at (is_member (record { 0 = number }) set) set number
unfolding conns_from
members_from-first set number within = grind arith

-- the letters that are left, from this number on, make the mail whole
abbrev pub LeadsFrom : List ConnId → Event → Mailboxes → ℕ → Mailboxes → Type 0
LeadsFrom set event whole number now = with_letters now (letters_to (members_from set number) event) ≡ whole

module _ (set : List ConnId) (event : Event) (number : ℕ) (within : number < CALLERS) (whole now : Mailboxes) where
  pub leads_member : is_member (record { 0 = number }) set ≡ true → LeadsFrom set event whole number now → LeadsFrom
      set event whole (number + 1) (with_letter now (record { to = record { 0 = number }; event = event }))
  leads_member member before = rw (members_from-first set number within, member) at before

  pub leads_nobody : is_member (record { 0 = number }) set ≡ false → LeadsFrom set event whole number now
      → LeadsFrom set event whole (number + 1) now
  leads_nobody none before = rw (members_from-first set number within, none) at before

-- nobody is left behind the callers
nobody_left : (set : List ConnId) (number : ℕ) → CALLERS ≤ number → members_from set number ≡ []
unfolding conns_from
nobody_left set number past = grind arith

pub leads_all : (set : List ConnId) (event : Event) (number : ℕ) (whole now : Mailboxes) → CALLERS ≤ number
    → LeadsFrom set event whole number now → now ≡ whole
leads_all set event number whole now past leads = rw (nobody_left set number past) at leads
