-- What a call may mark stands.
use Rattle.engine_api.proofs.Imports.{◌≡◌, ◌==◌, ◌⊎◌, inl, inr, Bool, true, false, ◌||◌, List, [], ◌∷◌, ◌++◌, filter, Option, None, Some, refl, arith, CfId, StrForm, ConnId, Refusal, Meaning, Machine, loss_step, room_of, call_cause, listed, asks_of, asked_unless, links_asked, Asks, has, apart, AreSome, AreMarksOf, fresh_of, is_at}
use Rattle.engine_api.specs.declared.asks.Ask.{Ask}
use Rattle.engine_api.specs.Shell.{stands_at}
use Rattle.cf_types.specs.declared.shell_commands.ShellCmd.{ShellCmd}
use Rattle.engine_api.proofs.AskLaws.{itself, or_true, same_cf}

-- some of these are among them
some_in : (marks xs : List CfId) (cf : CfId) → AreSome marks xs → has marks cf ≡ true → has xs cf ≡ true
some_in marks [] cf some there = rw some at there
some_in marks (x ∷ xs) cf some there = elim some [
  | inl others ↦ rw (some_in marks xs cf others there) (or_true (x.0 == cf.0))
  | inr here ↦ by_first here.0 (x.0 == cf.0) refl (λ h. some_in here.0 xs cf here.2 h) (rw here.1 at there)
]
  where
    by_first : (rest : List CfId) (b : Bool) → x.0 == cf.0 ≡ b → (has rest cf ≡ true → has xs cf ≡ true)
        → x.0 == cf.0 || has rest cf ≡ true → has (x ∷ xs) cf ≡ true
    by_first rest true same next h = rw same refl
    by_first rest false other next h = rw other (next (rw other at h))

has_filtered : (p : CfId → Bool) (xs : List CfId) (cf : CfId) → has (filter p xs) cf ≡ true → has xs cf ≡ true
has_filtered p [] cf h = h
has_filtered p (x ∷ xs) cf h = by_test (p x) refl (has_filtered p xs cf) h
  where
    by_test : (b : Bool) → p x ≡ b → (has (filter p xs) cf ≡ true → has xs cf ≡ true)
        → has (filter p (x ∷ xs)) cf ≡ true → has (x ∷ xs) cf ≡ true
    by_test false out next h = rw (next (rw out at h)) (or_true (x.0 == cf.0))
    by_test true kept next h = grind arith

has_apart : (xs : List CfId) (cf : CfId) → has (apart xs) cf ≡ true → has xs cf ≡ true
has_apart [] cf h = h
has_apart (x ∷ xs) cf h = grind (arith, has_filtered, has_apart xs cf)

module _ {C R I S : Type 0} (meaning : Meaning C R I S) (form : StrForm) (machine : Machine S) (by : ConnId)
    (ask : Ask C) where
  abbrev asks : Asks
  asks = links_asked meaning form machine by ask

  listed_in : (o : Option CfId) (cf : CfId) → has (listed o) cf ≡ true → is_at cf o ≡ true
  listed_in None cf h = absurd cc
  listed_in (Some x) cf h = grind (arith, same_cf, itself)

  has_both : (one other : Option CfId) (cf : CfId) → has (listed one ++ listed other) cf ≡ true
      → (is_at cf one ≡ true) ⊎ (is_at cf other ≡ true)
  has_both None None cf h = absurd cc
  has_both None (Some s) cf h = inr (listed_in (Some s) cf h)
  has_both (Some p) None cf h = inl (listed_in (Some p) cf h)
  has_both (Some p) (Some s) cf h = by_first (p.0 == cf.0) refl
    where
      by_first : (b : Bool) → p.0 == cf.0 ≡ b → (is_at cf (Some p) ≡ true) ⊎ (is_at cf (Some s) ≡ true)
      by_first true same = inl (listed_in (Some p) cf (rw same refl))
      by_first false other = inr (listed_in (Some s) cf (rw other at h))

  in_places : (one other : Option CfId) (cf : CfId) → has (apart (listed one ++ listed other)) cf ≡ true
      → (is_at cf one ≡ true) ⊎ (is_at cf other ≡ true)
  in_places one other cf h = has_both one other cf (has_apart (listed one ++ listed other) cf h)

  abbrev primary : Option CfId
  primary = machine.shell.instances.primary

  abbrev secondary : Option CfId
  secondary = machine.shell.instances.secondary

  last_true : (a b : Bool) → a || (b || true) ≡ true
  last_true a b = grind arith

  links_stand : (cause : Option Refusal) (a : Ask C) (cf : CfId) → (let it = asked_unless
      cause (asks_of machine.shell a) in has it.links cf ≡ true) → stands_at machine.shell cf ≡ true
  links_stand (Some refusal) a cf h = absurd cc
  links_stand None (Ask.Content command) cf h = elim (in_places primary secondary cf h) [
    | inl at ↦ rw at refl
    | inr at ↦ rw at (or_true (is_at cf primary))
  ]
  links_stand None (Ask.Shell (ShellCmd.Copy n)) cf h = elim (in_places primary (fresh_of machine.shell.rebuild) cf h) [
    | inl at ↦ rw at refl
    | inr at ↦ rw at (last_true (is_at cf primary) (is_at cf secondary))
  ]
  links_stand None (Ask.Shell command) cf h = absurd (let wrong : false ≡ true = h in cc)

  pub first_stands : (cf : CfId) (more : List CfId) → AreMarksOf asks (cf ∷ more) → stands_at machine.shell cf ≡ true
  first_stands cf more marked =
      let there : has (cf ∷ more) cf ≡ true = rw (itself cf) refl in
      links_stand (call_cause form (room_of meaning form machine) machine.shell by ask) ask cf
      (some_in (cf ∷ more) asks.links cf marked.some there)

  -- two marks are of a primary and a secondary
  two_places : (primary secondary : Option CfId) (cf other : CfId) (more : List CfId) → AreSome (cf ∷ other ∷ more)
      (apart (listed primary ++ listed secondary)) → (primary ≡ Some cf) × (secondary ≡ Some other)
  two_places None None cf other more some = absurd cc
  two_places None (Some s) cf other more some = grind arith
  two_places (Some p) None cf other more some = grind arith
  two_places (Some p) (Some s) cf other more some = by_same (p.0 == s.0) refl some
    where
      by_same : (b : Bool) → p.0 == s.0 ≡ b → AreSome (cf ∷ other ∷ more) (apart (listed (Some p) ++ listed (Some s)))
          → (Some p ≡ Some cf) × (Some s ≡ Some other)
      by_same b is some = grind arith

  lost_primary : (cf other : CfId) → primary ≡ Some cf → secondary ≡ Some other
      → stands_at (loss_step meaning form machine cf).machine.shell other ≡ true
  lost_primary cf other first second = grind (arith, itself)

  two_links : (cause : Option Refusal) (a : Ask C) (cf other : CfId) (more : List CfId)
      → AreMarksOf (asked_unless cause (asks_of machine.shell a)) (cf ∷ other ∷ more)
      → stands_at (loss_step meaning form machine cf).machine.shell other ≡ true
  two_links (Some refusal) a cf other more marked = absurd (let none : cf ∷ other ∷ more ≡ [] = marked.some in cc)
  two_links None (Ask.Content command) cf other more marked =
      let both = two_places primary secondary cf other more marked.some in lost_primary cf other both.0 both.1
  two_links None (Ask.Shell (ShellCmd.Copy n)) cf other more marked =
      absurd (let few = marked.one refl in omega (arith, few))
  two_links None (Ask.Shell command) cf other more marked =
      absurd (let none : cf ∷ other ∷ more ≡ [] = marked.some in cc)

  pub other_stands : (cf other : CfId) (more : List CfId) → AreMarksOf asks (cf ∷ other ∷ more)
      → stands_at (loss_step meaning form machine cf).machine.shell other ≡ true
  other_stands cf other more marked =
      two_links (call_cause form (room_of meaning form machine) machine.shell by ask) ask cf other more marked

  -- there is no third one
  no_third_place : (one other : Option CfId) (a b c : CfId) (more : List CfId)
      → AreSome (a ∷ b ∷ c ∷ more) (apart (listed one ++ listed other)) → ⊥
  no_third_place None None a b c more some = absurd cc
  no_third_place None (Some s) a b c more some = grind arith
  no_third_place (Some p) None a b c more some = grind arith
  no_third_place (Some p) (Some s) a b c more some = by_same (p.0 == s.0) refl some
    where
      by_same : (same : Bool) → p.0 == s.0 ≡ same
          → AreSome (a ∷ b ∷ c ∷ more) (apart (listed (Some p) ++ listed (Some s))) → ⊥
      by_same same is some = grind arith

  no_third_link : (cause : Option Refusal) (a : Ask C) (cf other third : CfId) (more : List CfId)
      → AreMarksOf (asked_unless cause (asks_of machine.shell a)) (cf ∷ other ∷ third ∷ more) → ⊥
  no_third_link (Some refusal) a cf other third more marked =
      absurd (let none : cf ∷ other ∷ third ∷ more ≡ [] = marked.some in cc)
  no_third_link None (Ask.Content command) cf other third more marked =
      no_third_place primary secondary cf other third more marked.some
  no_third_link None (Ask.Shell (ShellCmd.Copy n)) cf other third more marked =
      absurd (let few = marked.one refl in omega (arith, few))
  no_third_link None (Ask.Shell command) cf other third more marked =
      absurd (let none : cf ∷ other ∷ third ∷ more ≡ [] = marked.some in cc)

  pub no_third : (cf other third : CfId) (more : List CfId) → AreMarksOf asks (cf ∷ other ∷ third ∷ more) → ⊥
  no_third cf other third more marked = no_third_link
      (call_cause form (room_of meaning form machine) machine.shell by ask) ask cf other third more marked
