-- What every step of the machine keeps.
use Rattle.vec_world.proofs.Imports.{◌≡◌, ◌≢◌, ◌⊎◌, ℕ, ◌-◌, ◌^◌, ◌<◌, true, max, List, [], ◌∷◌, ◌++◌, length, take, get_or, set, Option, Some, None, refl, sym, subst, inl, inr, arith, All, fold, slice_get, cases_eq, cases_lt, and_parts, or_cases, ltb-true, eqb-true, eqb-false, not-true, cond_both, slice_get_within, get_or_from_slice_get, get_or-set_same, get_or-set_other, get_or-replicate, get_or_past, length-replicate, All-nil, All-head, All-tail, All-get_or, All-push, All-set, All-take, All-weaker, All-replicate, Contains-push, Step, Store, Commit, Load, LoadCount, Split, Join, World, IsOpen, IsSettled, FitsHalf, bits_of, stamp_of, word_of, CarriesWord, word_at, known_by, start, is_open, has_word, has_pass, can_store, with_store, with_commit, with_learned, with_note, with_note_told, act, world_of, IsGenuine, HasGenuineNumbers}
use Rattle.vec_world.proofs.LogLaws.{Carries-nil, Carries-push_other, Carries-push_commit, CarriesWord-push_store, stamp_of-word_of, settled-store, settled-commit, settled-max}

-- What holds of each world that steps make.

abbrev pub Settled : World → ℕ → Type 0
Settled world number = IsSettled world.log world.count world.flying number

pub record IsSound (world : World) : Type 0 where
  pub flight : (world.flying ≡ 0) ⊎ (world.count < world.flying)
  pub count : Settled world world.count
  pub known : All (Settled world) world.known
  pub notes : All (Settled world) world.notes
  pub stamps : All (λ value. Settled world (stamp_of value)) world.words
  pub words : (word : ℕ) → CarriesWord world.log word (word_at world word)

-- What the tests say.

pub open_from_test : (world : World) (number : ℕ) → is_open world number ≡ true → IsOpen world.count world.flying
    number
open_from_test world number test = grind (arith, and_parts, ltb-true, or_cases, eqb-true)

-- a store can act: there is such a word, the stamp is open, and the word doesn't carry it
pub record CanStore (world : World) (word stamp : ℕ) : Type 0 where
  pub within : word < length world.words
  pub fresh : IsOpen world.count world.flying stamp
  pub other : stamp_of (word_at world word) ≢ stamp

pub can_store_from_test : (world : World) (word stamp : ℕ) → can_store world word stamp ≡ true
    → CanStore world word stamp
can_store_from_test world word stamp test = grind (arith, and_parts, ltb-true, open_from_test, eqb-false, not-true)

-- what a pass knows and what a word is stamped with are settled, also where there is no such pass or word: that reads
-- as 0
settled-zero : (world : World) (number : ℕ) → number ≡ 0 → Settled world number
settled-zero world number none = inl (omega arith, inl none)

pub settled-known : (world : World) (pass : ℕ) → All (Settled world) world.known → Settled world (known_by world pass)
settled-known world pass known = grind (arith, cases_lt, All-get_or, settled-zero, get_or_past)

pub settled-stamp : (world : World) (word : ℕ) → All (λ value. Settled world (stamp_of value)) world.words
    → Settled world (stamp_of (word_at world word))
settled-stamp world word stamps = grind (arith, cases_lt, All-get_or, settled-zero, get_or_past)

-- the stamp of a store that acts is above the word's
pub stamp-above : (world : World) (word stamp : ℕ) → CanStore world word stamp → IsSound world
    → stamp_of (word_at world word) < stamp
stamp-above world word stamp can sound = grind (arith, settled-stamp)

-- Each change keeps the world sound.

pub sound-stored : (world : World) (word bits stamp : ℕ) → bits < 2 ^ 32 → CanStore world word stamp → IsSound world
    → IsSound (with_store world word bits stamp)
sound-stored world word bits stamp fits can sound =
    let later = with_store world word bits stamp in
    let Log = CarriesWord (world.log ++ Store word bits stamp ∷ []) in
    let keeps_settled : (n : ℕ) → Settled world n → Settled later n = λ n. settled-store _ _ _ _ _ _ n can.fresh in
    record {
      flight = inr can.fresh.0;
      count = keeps_settled world.count sound.count;
      known = All-weaker (Settled world) (Settled later) keeps_settled world.known sound.known;
      notes = All-weaker (Settled world) (Settled later) keeps_settled world.notes sound.notes;
      stamps = All-set (λ value. Settled later (stamp_of value)) world.words word (word_of bits stamp) (inr
          (stamp_of-word_of _ _ fits)) (All-weaker (λ value. Settled world (stamp_of value)) (λ value. Settled
          later (stamp_of value)) (λ value. keeps_settled (stamp_of value)) world.words sound.stamps);
      words = λ at. elim (cases_eq at word) [
        | inl same ↦
            let low = stamp-above _ _ _ can sound in
            let last = CarriesWord-push_store _ _ _ _ _ fits (omega arith) (sound.words word) in
            subst (λ n. Log n (get_or (set world.words word (word_of bits stamp)) n 0)) (sym same)
            (subst (Log word) (sym (get_or-set_same world.words word (word_of bits stamp) 0 can.within)) last)
        | inr other ↦ subst (Log at) (grind (arith, get_or-set_other)) (Carries-push_other _ _ _ _
            at (bits_of (word_at world at)) (stamp_of (word_at world at)) (λ same. other (sym same)) (sound.words at))
      ];
    }

pub sound-committed : (world : World) (number : ℕ) → IsOpen world.count world.flying number → IsSound world
    → IsSound (with_commit world number)
sound-committed world number fresh sound =
    let later : World = with_commit world number in
    let keeps_settled : (n : ℕ) → Settled world n → Settled later n = λ n. settled-commit _ _ _ _ n fresh in
    record {
      flight = inl refl;
      count = inl (omega arith, inr (Contains-push world.log (Commit number)));
      known = All-weaker (Settled world) (Settled later) keeps_settled world.known sound.known;
      notes = All-weaker (Settled world) (Settled later) keeps_settled world.notes sound.notes;
      stamps = All-weaker (λ value. Settled world (stamp_of value)) (λ value. Settled later (stamp_of value))
          (λ value. keeps_settled (stamp_of value)) world.words sound.stamps;
      words = λ (word : ℕ). Carries-push_commit _ _ _ _ _ (sound.words word);
    }

pub sound-learned : (world : World) (pass number : ℕ) → Settled world number → IsSound world
    → IsSound (with_learned world pass number)
sound-learned world pass number settled sound = cond_both (has_pass world pass)
    (record world { known = set world.known pass (max (known_by world pass) number) }) world IsSound (λ _. record {
      flight = sound.flight;
      count = sound.count;
      known = All-set (Settled world) world.known pass (max (known_by world pass) number) (settled-max world.log
          world.count world.flying (known_by world pass) number (grind (arith, settled-known)) settled) sound.known;
      notes = sound.notes;
      stamps = sound.stamps;
      words = sound.words;
    }) (λ _. sound)

pub sound-noted : (world : World) (pass : ℕ) → IsSound world → IsSound (with_note world pass)
sound-noted world pass sound = record {
  flight = sound.flight;
  count = sound.count;
  known = sound.known;
  notes = All-push (Settled world) world.notes (known_by world pass) sound.notes (grind (arith, settled-known));
  stamps = sound.stamps;
  words = sound.words;
}

sound-without_note : (world : World) → IsSound world
    → IsSound (record world { notes = take (length world.notes - 1) world.notes })
sound-without_note world sound = record {
  flight = sound.flight;
  count = sound.count;
  known = sound.known;
  notes = All-take (Settled world) (length world.notes - 1) world.notes sound.notes;
  stamps = sound.stamps;
  words = sound.words;
}

settled-note : (world : World) (at note : ℕ) → slice_get world.notes at ≡ Some note → IsSound world
    → Settled world note
settled-note world at note there sound = subst (Settled world) (get_or_from_slice_get world.notes at note 0 there)
    (All-get_or (Settled world) world.notes at 0 (slice_get_within world.notes at note there) sound.notes)

-- a note that is told was among the notes
pub sound-told : (world : World) (into : ℕ) (note : Option ℕ) → slice_get world.notes (length world.notes - 1) ≡ note
    → IsSound world → IsSound (with_note_told world into note)
sound-told world into None there sound = sound
sound-told world into (Some note) there sound =
    let settled : Settled world note = settled-note world (length world.notes - 1) note there sound in
    cond_both (has_pass world into) (record world { known = set world.known into (max (known_by world into) note) })
    world (λ w. IsSound (record w { notes = take (length world.notes - 1) world.notes })) (λ _. record {
      flight = sound.flight;
      count = sound.count;
      known = All-set (Settled world) world.known into (max (known_by world into) note) (settled-max world.log
          world.count world.flying (known_by world into) note (grind (arith, settled-known)) settled) sound.known;
      notes = All-take (Settled world) (length world.notes - 1) world.notes sound.notes;
      stamps = sound.stamps;
      words = sound.words;
    }) (λ _. sound-without_note world sound)

pub sound-act : (world : World) (step : Step) → FitsHalf step → IsSound world → IsSound (act world step)
sound-act world (Store word bits stamp) fits sound = cond_both (can_store world word stamp) (with_store world word
    bits stamp) world IsSound (λ test. sound-stored _ _ _ _ fits (can_store_from_test _ _ _ test) sound) (λ _. sound)
sound-act world (Commit number) fits sound = cond_both (is_open world number) (with_commit world number)
    world IsSound (λ test. sound-committed world number (open_from_test world number test) sound) (λ _. sound)
sound-act world (Load pass word) fits sound = cond_both (has_word world word)
    (with_learned world pass (stamp_of (word_at world word))) world IsSound (λ _. sound-learned world
    pass (stamp_of (word_at world word)) (settled-stamp world word sound.stamps) sound) (λ _. sound)
sound-act world (LoadCount pass) fits sound = sound-learned world pass world.count sound.count sound
sound-act world (Split pass) fits sound = cond_both (has_pass world pass)
    (with_note world pass) world IsSound (λ _. sound-noted world pass sound) (λ _. sound)
sound-act world (Join into) fits sound = grind (arith, cond_both, sound-told)

-- what each step keeps, a list of steps keeps
pub fold-act : (P : World → Type 0) → ((world : World) (step : Step) → FitsHalf step → P world → P (act world step))
    → (world : World) (steps : List Step) → All FitsHalf steps → P world → P (fold act world steps)
fold-act P keeps world [] fits holds = holds
fold-act P keeps world (step ∷ steps) fits holds = fold-act P keeps (act world step) steps
    (All-tail FitsHalf step steps fits) (keeps world step (All-head FitsHalf step steps fits) holds)

pub sound-world_of : (words passes : ℕ) (steps : List Step) → All FitsHalf steps
    → IsSound (world_of words passes steps)
sound-world_of words passes steps fits = fold-act IsSound sound-act (start words passes) steps fits
    (grind (arith, All-replicate, All-nil, Carries-nil, cases_lt, get_or-replicate, get_or_past, length-replicate))

-- Numbers are genuine.

genuine_from_settled : (world : World) (number : ℕ) → Settled world number → IsGenuine world number
genuine_from_settled world number (inl low) = grind arith
genuine_from_settled world number (inr flies) = (inr (inr flies), omega arith)

pub genuine_from_sound : (world : World) → IsSound world → HasGenuineNumbers world
genuine_from_sound world sound = grind (arith, All-weaker, genuine_from_settled)
