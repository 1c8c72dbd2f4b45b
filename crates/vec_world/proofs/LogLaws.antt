-- Laws of logs. They are said of any list of steps, so a log that no machine made may cite them too.
use Rattle.vec_world.proofs.Imports.{◌≡◌, ◌≢◌, ◌⊎◌, ℕ, ◌-◌, ◌^◌, ◌<◌, ◌≤◌, max, List, [], ◌∷◌, ◌++◌, refl, sym, ap, ◌∙◌, subst, inl, inr, arith, Contains, fold, cases_eq, cases_lt, nat_tests, fold_push, All-head, All-tail, All-nil, All-push, All-weaker, All-contains_itself, Contains-append_left, Contains-push, Step, Store, Commit, bits_after, bits_at, HasStore, IsCommitted, IsOpen, IsSettled, OnStoreTo, StampsUpTo, Carries, bits_of, stamp_of, word_of, CarriesWord, Tells}

-- One more step of a log.

pub bits_at-push : (log : List Step) (step : Step) (word number : ℕ)
    → bits_at (log ++ step ∷ []) word number ≡ bits_after word number (bits_at log word number) step
bits_at-push log step word number = fold_push (bits_after word number) 0 log step

bits_after-store : (word number old bits stamp : ℕ) → stamp ≤ number
    → bits_after word number old (Store word bits stamp) ≡ bits
bits_after-store word number old bits stamp low = grind (arith, nat_tests)

bits_after-other : (word number old to bits stamp : ℕ) → to ≢ word
    → bits_after word number old (Store to bits stamp) ≡ old
bits_after-other word number old to bits stamp other = grind (arith, nat_tests)

-- a store gives its bits from its stamp on
pub bits_at-push_store : (log : List Step) (word bits stamp number : ℕ) → stamp ≤ number
    → bits_at (log ++ Store word bits stamp ∷ []) word number ≡ bits
bits_at-push_store log word bits stamp number low = grind (arith, bits_at-push, bits_after-store)

-- it leaves the bits at each number below its stamp
pub bits_at-push_above : (log : List Step) (to bits stamp word number : ℕ) → number < stamp
    → bits_at (log ++ Store to bits stamp ∷ []) word number ≡ bits_at log word number
bits_at-push_above log to bits stamp word number high = grind (arith, bits_at-push, nat_tests)

-- it leaves each other word
pub bits_at-push_other : (log : List Step) (to bits stamp word number : ℕ) → to ≢ word
    → bits_at (log ++ Store to bits stamp ∷ []) word number ≡ bits_at log word number
bits_at-push_other log to bits stamp word number other = grind (arith, bits_at-push, bits_after-other)

-- a commit leaves all bits
pub bits_at-push_commit : (log : List Step) (committed word number : ℕ)
    → bits_at (log ++ Commit committed ∷ []) word number ≡ bits_at log word number
bits_at-push_commit log committed word number = bits_at-push log (Commit committed) word number

-- The greatest stamp of a word.

-- where no store to the word has a stamp above `low`, its bits at a higher number are those at `low`
bits_after-up_to : (word low high old : ℕ) (step : Step) → low ≤ high → OnStoreTo word (λ stamp. stamp ≤ low) step
    → bits_after word high old step ≡ bits_after word low old step
bits_after-up_to word low high old (Store to bits stamp) order within =
    grind (arith, cases_eq, bits_after-store, bits_after-other)
bits_after-up_to word low high old _ order within = refl

fold-up_to : (word low high old : ℕ) (log : List Step) → low ≤ high → StampsUpTo log word low
    → fold (bits_after word high) old log ≡ fold (bits_after word low) old log
fold-up_to word low high old [] order within = refl
fold-up_to word low high old (step ∷ log) order within =
    let P : Step → Type 0 = OnStoreTo word (λ stamp. stamp ≤ low) in
    ap (λ (start : ℕ). fold (bits_after word high) start log) (grind (arith, bits_after-up_to, All-head))
    ∙ fold-up_to word low high (bits_after word low old step) log order (All-tail P step log within)

pub bits_at-up_to : (log : List Step) (word low high : ℕ) → low ≤ high → StampsUpTo log word low
    → bits_at log word high ≡ bits_at log word low
bits_at-up_to log word low high order within = fold-up_to word low high 0 log order within

OnStoreTo-weaker : (word low high : ℕ) → low ≤ high → (step : Step) → OnStoreTo word (λ stamp. stamp ≤ low) step
    → OnStoreTo word (λ stamp. stamp ≤ high) step
OnStoreTo-weaker word low high order (Store to bits stamp) within = grind arith
OnStoreTo-weaker word low high order _ within = within

pub StampsUpTo-weaker : (log : List Step) (word low high : ℕ) → low ≤ high → StampsUpTo log word low
    → StampsUpTo log word high
StampsUpTo-weaker log word low high order within = grind (arith, All-weaker, OnStoreTo-weaker)

-- what holds of the stamp of each store to the word
OnStoreTo-from_each : (P : ℕ → Type 0) (log : List Step) (word : ℕ)
    → ((stamp : ℕ) → HasStore log word stamp → P stamp) → (step : Step) → Contains log step → OnStoreTo word P step
OnStoreTo-from_each P log word each (Store to bits stamp) has = grind arith
OnStoreTo-from_each P log word each _ has = tt

pub StampsUpTo-from_each : (log : List Step) (word number : ℕ)
    → ((stamp : ℕ) → HasStore log word stamp → stamp ≤ number) → StampsUpTo log word number
StampsUpTo-from_each log word number each = All-weaker (Contains log) (OnStoreTo word (λ stamp. stamp ≤ number))
    (OnStoreTo-from_each (λ stamp. stamp ≤ number) log word each) log (All-contains_itself log)

-- What a word carries.

pub Carries-nil : (word : ℕ) → Carries [] word 0 0
Carries-nil word = record { greatest = All-nil (OnStoreTo word (λ stamp. stamp ≤ 0)); there = refl }

-- from its stamp on, the bits are those that the word carries
pub Carries-at : (log : List Step) (word bits stamp number : ℕ) → stamp ≤ number → Carries log word bits stamp
    → bits_at log word number ≡ bits
Carries-at log word bits stamp number low carries = grind (arith, bits_at-up_to)

pub Carries-push_store : (log : List Step) (word old low bits stamp : ℕ) → low ≤ stamp → Carries log word old low
    → Carries (log ++ Store word bits stamp ∷ []) word bits stamp
Carries-push_store log word old low bits stamp order carries = record {
  greatest = All-push (OnStoreTo word (λ s. s ≤ stamp)) log
      (Store word bits stamp) (StampsUpTo-weaker log word low stamp order carries.greatest) (λ _. omega arith);
  there = bits_at-push_store log word bits stamp stamp (omega arith);
}

pub Carries-push_other : (log : List Step) (to new at word bits stamp : ℕ) → to ≢ word → Carries log word bits stamp
    → Carries (log ++ Store to new at ∷ []) word bits stamp
Carries-push_other log to new at word bits stamp other carries = record {
  greatest = All-push (OnStoreTo word (λ s. s ≤ stamp)) log (Store to new at) carries.greatest (grind arith);
  there = bits_at-push_other log to new at word stamp other ∙ carries.there;
}

pub Carries-push_commit : (log : List Step) (committed word bits stamp : ℕ) → Carries log word bits stamp
    → Carries (log ++ Commit committed ∷ []) word bits stamp
Carries-push_commit log committed word bits stamp carries = record {
  greatest = All-push (OnStoreTo word (λ s. s ≤ stamp)) log (Commit committed) carries.greatest tt;
  there = bits_at-push_commit log committed word stamp ∙ carries.there;
}

-- The two halves of a word.

pub stamp_of-word_of : (bits stamp : ℕ) → bits < 2 ^ 32 → stamp_of (word_of bits stamp) ≡ stamp
stamp_of-word_of bits stamp fits = omega arith

pub CarriesWord-push_store : (log : List Step) (word old bits stamp : ℕ) → bits < 2 ^ 32 → stamp_of old ≤ stamp
    → CarriesWord log word old → CarriesWord (log ++ Store word bits stamp ∷ []) word (word_of bits stamp)
CarriesWord-push_store log word old bits stamp fits order carries = subst (λ s. Carries (log ++ Store word bits
    stamp ∷ []) word (bits_of (word_of bits stamp)) s) (sym (stamp_of-word_of _ _ fits)) (subst (λ b. Carries (log
    ++ Store word bits stamp ∷ []) word b stamp) (sym (grind arith)) (Carries-push_store _ _ _ _ _ _ order carries))

-- Numbers stay settled.

pub settled-store : (log : List Step) (count flying word bits stamp number : ℕ) → IsOpen count flying stamp
    → IsSettled log count flying number → IsSettled (log ++ Store word bits stamp ∷ []) count stamp number
settled-store log count flying word bits stamp number fresh (inl low) = grind (arith, Contains-append_left)
settled-store log count flying word bits stamp number fresh (inr flies) = grind arith

pub settled-commit : (log : List Step) (count flying done number : ℕ) → IsOpen count flying done
    → IsSettled log count flying number → IsSettled (log ++ Commit done ∷ []) done 0 number
settled-commit log count flying done number fresh (inl low) = grind (arith, Contains-append_left)
settled-commit log count flying done number fresh (inr flies) = elim fresh.1 [
  | inl none ↦ inl (let zero : number ≡ 0 = flies ∙ none in (omega arith, inl zero))
  | inr same ↦
      let it : number ≡ done = flies ∙ same in
      inl (
        omega arith,
        inr (subst (IsCommitted (log ++ Commit done ∷ [])) (sym it) (Contains-push log (Commit done))),
      )
]

pub settled-max : (log : List Step) (count flying a b : ℕ) → IsSettled log count flying a
    → IsSettled log count flying b → IsSettled log count flying (max a b)
settled-max log count flying a b left right = elim (cases_lt a b) [
  | inl less ↦ let it : b ≡ max a b = omega arith in subst (IsSettled log count flying) it right
  | inr more ↦ let it : a ≡ max a b = omega arith in subst (IsSettled log count flying) it left
]

-- a settled number isn't above one that is open
pub settled-below : (log : List Step) (count flying stamp number : ℕ) → IsOpen count flying stamp
    → IsSettled log count flying number → number ≤ stamp
settled-below log count flying stamp number fresh (inl low) = grind arith
settled-below log count flying stamp number fresh (inr flies) = grind arith

-- What a load told stays told.

-- the step leaves the bits of the word at the number and just below it
abbrev pub Leaves : List Step → List Step → ℕ → ℕ → Type 0
Leaves log later word number = (bits_at later word number ≡ bits_at log word number)
    × (bits_at later word (number - 1) ≡ bits_at log word (number - 1))

-- the step gives the word new bits at the number, and what stood there stands just below it
abbrev pub Moves : List Step → List Step → ℕ → ℕ → Type 0
Moves log later word number = (bits_at later word (number - 1) ≡ bits_at log word number)
    × (bits_at later word (number - 1) ≡ bits_at log word (number - 1))

pub leaves-commit : (log : List Step) (committed word number : ℕ)
    → Leaves log (log ++ Commit committed ∷ []) word number
leaves-commit log committed word number = grind (arith, bits_at-push_commit)

-- a store moves one word at one number alone, its own at its stamp
pub store-cases : (log : List Step) (to bits stamp word number : ℕ) → 0 < stamp → number ≤ stamp
    → StampsUpTo log to (stamp - 1) → Leaves log (log ++ Store to bits stamp ∷ []) word number
    ⊎ ((to ≡ word) × (stamp ≡ number) × Moves log (log ++ Store to bits stamp ∷ []) word number)
store-cases log to bits stamp word number some most within =
    grind (arith, cases_eq, bits_at-push_other, cases_lt, bits_at-push_above, bits_at-up_to)

Tells-left : (log later : List Step) (step : Step) (count word bits number : ℕ)
    → Leaves log (log ++ step ∷ []) word number
    → Tells log later count word bits number → Tells (log ++ step ∷ []) (later ++ step ∷ []) count word bits number
Tells-left log later step count word bits number leaves (inl now) = inl (now ∙ sym leaves.0)
Tells-left log later step count word bits number leaves (inr below) = grind (arith, Contains-append_left)

pub Tells-push_commit : (log later : List Step) (committed count word bits number : ℕ) → Tells log later count
    word bits number → Tells (log ++ Commit committed ∷ []) (later ++ Commit committed ∷ []) count word bits number
Tells-push_commit log later committed count word bits number =
    Tells-left log later (Commit committed) count word bits number (leaves-commit log committed word number)

pub Tells-push_store : (log later : List Step) (to new stamp count word bits number : ℕ) → count < stamp
    → number ≤ stamp → StampsUpTo log to (stamp - 1) → Tells log later count word bits number
    → Tells (log ++ Store to new stamp ∷ []) (later ++ Store to new stamp ∷ []) count word bits number
Tells-push_store log later to new stamp count word bits number fresh most within told =
    let step : Step = Store to new stamp in
    elim (store-cases log to new stamp word number (omega arith) most within) [
      | inl leaves ↦ Tells-left log later step count word bits number leaves told
      | inr moves ↦
          let is : stamp ≡ number = moves.1 in
          let same : step ≡ Store word new number = λ i. Store (moves.0 i) new (is i) in
          let stored : HasStore (later ++ step ∷ []) word number =
          (new, subst (Contains (later ++ step ∷ [])) same (Contains-push later step)) in
          elim told as (λ _. Tells (log ++ step ∷ []) (later ++ step ∷ []) count word bits number) [
            | inl now ↦ inr (omega arith, now ∙ sym moves.2.0, stored)
            | inr was ↦ inr (omega arith, was.1 ∙ sym moves.2.1, stored)
          ]
    ]
