-- The lines of a report fill its slots, and lines that fill them are those of a report.
use Rattle.std.proofs.Common.{◌≡◌, ◌⊎◌, inl, inr, ℕ, zero, suc, ◌+◌, ◌<◌, ◌≤◌, ◌^◌, List, [], ◌∷◌, ◌++◌, length, map, replicate, Some, slice_get, All, refl, sym, ap, subst, ◌∙◌, arith, append-nil}
use Rattle.report_fronts.specs.Slots.{Slot, MayFill, Opens, Leads, slots_each}
use Rattle.report_fronts.specs.Slots.Slot.{Exactly, Headed}
use Rattle.report_fronts.proofs.GrammarLaws.{filled_apart, filled_on}
use Rattle.report_texts.specs.CheckModel.RunShown.PlexScript.declared.scripts.Script.{Script}
use Rattle.report_texts.specs.PlexReport.Lines.{heading}
use Rattle.report_texts.specs.PlexReport.Report.{lines_each}

-- ---- elements at their numbers

abbrev pub AreAt : {X : Type 0} → (ℕ → X → Type 0) → ℕ → List X → Type 0
AreAt P first [] = Unit {0}
AreAt P first (x ∷ xs) = P first x × AreAt P (first + 1) xs

pub at_all : {X : Type 0} (P : ℕ → X → Type 0) (first : ℕ) (xs : List X)
    → ((k : ℕ) (x : X) → slice_get xs k ≡ Some x → P (k + first) x) → AreAt P first xs
at_all P first [] h = tt
at_all P first (x ∷ xs) h = (
  subst (λ (n : ℕ). P n x) (omega arith) (h 0 x refl),
  at_all P (first + 1) xs (λ k y e.
      subst (λ (n : ℕ). P n y) (omega arith) (h (suc k) y e)),
)

pub all_at : {X : Type 0} (P : ℕ → X → Type 0) (first : ℕ) (xs : List X) → AreAt P first xs → (k : ℕ) (x : X)
    → slice_get xs k ≡ Some x → P (k + first) x
all_at P first [] h k x e = absurd cc
all_at P first (y ∷ xs) h zero x e =
    let same : y ≡ x = cc in subst (λ (z : _). P (0 + first) z) same (subst (λ (n : ℕ). P n y) (omega arith) h.0)
all_at P first (y ∷ xs) h (suc k) x e = subst (λ (n : ℕ). P n x) (omega arith) (all_at P (first + 1) xs h.1 k x e)

-- from the first on
pub at_each : {X : Type 0} (P : ℕ → X → Type 0) (xs : List X)
    → ((k : ℕ) (x : X) → slice_get xs k ≡ Some x → P k x) → AreAt P 0 xs
at_each P xs h = at_all P 0 xs (λ k x e. subst (λ (n : ℕ). P n x) (omega arith) (h k x e))

pub each_at : {X : Type 0} (P : ℕ → X → Type 0) (xs : List X) → AreAt P 0 xs → (k : ℕ) (x : X)
    → slice_get xs k ≡ Some x → P k x
each_at P xs h k x e = subst (λ (n : ℕ). P n x) (omega arith) (all_at P 0 xs h k x e)

pub all_first : {X : Type 0} (P : X → Type 0) (x : X) (xs : List X) → All P (x ∷ xs) → P x
all_first P x xs h = h 0 x (omega arith)

pub all_rest : {X : Type 0} (P : X → Type 0) (x : X) (xs : List X) → All P (x ∷ xs) → All P xs
all_rest P x xs h = λ k d low. h (suc k) d (omega (arith, low))

pub all_none : {X : Type 0} (P : X → Type 0) → All P []
all_none P = λ k d low. absurd (omega (arith, low))

pub all_more : {X : Type 0} (P : X → Type 0) (x : X) (xs : List X) → P x → All P xs → All P (x ∷ xs)
all_more P x xs h more = go
  where
    go : All P (x ∷ xs)
    go zero d low = h
    go (suc k) d low = more k d (omega (arith, low))

module _ (script : Script) where
  -- ---- slots of one kind

  -- so many that print each in a line of such a slot
  pub filled_many : {X : Type 0} (slot : Slot) (line : X → List ℕ) (P : X → Type 0)
      → ((x : X) → P x → Opens script slot (line x) []) → (xs : List X) → All P xs
      → Leads script (replicate (length xs) slot) (map line xs) []
  filled_many slot line P opens [] h = refl
  filled_many slot line P opens (x ∷ xs) h = (
    replicate (length xs) slot,
    ([], opens x (all_first P x xs h), refl),
    filled_many slot line P opens xs
        (all_rest P x xs h),
  )

  pub record Printed {X : Type 0} (line : X → List ℕ) (P : X → Type 0) (n : ℕ) (lines : List (List ℕ)) : Type 0 where
    pub xs : List X
    pub long : length xs ≡ n
    pub each : All P xs
    pub is : lines ≡ map line xs

  pub many_filled : {X : Type 0} (slot : Slot) (line : X → List ℕ) (P : X → Type 0)
      → ((text : List ℕ) (more : List Slot) → Opens script slot text more → (x : X) × P x × (text ≡ line x)
      × (more ≡ [])) → (n : ℕ) (lines : List (List ℕ)) → Leads script (replicate n slot) lines []
      → Printed line P n lines
  many_filled slot line P opens zero [] goes = record { xs = []; long = refl; each = all_none P; is = refl }
  many_filled slot line P opens zero (text ∷ lines) goes = absurd goes.1
  many_filled slot line P opens (suc n) [] goes = absurd cc
  many_filled slot line P opens (suc n) (text ∷ lines) goes =
      let x = opens text goes.1.0 goes.1.1 in
      let next : goes.0 ≡ replicate n slot =
      goes.1.2 ∙ ap (λ (s : List Slot). s ++ replicate n slot) x.3 in
      let rest = many_filled slot line P opens n lines
      (subst (λ (s : List Slot). Leads script s lines []) next goes.2) in
      record {
        xs = x.0 ∷ rest.xs;
        long = ap suc rest.long;
        each = all_more P x.0 rest.xs x.1 rest.each;
        is = ap (λ (t : List ℕ). t ∷ lines) x.2 ∙ ap (λ (ls : List (List ℕ)). line x.0 ∷ ls) rest.is;
      }

  -- ---- slots of lines

  pub exactly_filled : (lines : List (List ℕ)) → Leads script (map (λ line. Exactly line) lines) lines []
  exactly_filled [] = refl
  exactly_filled (line ∷ lines) =
      (map (λ l. Exactly l) lines, ([], (refl, refl), refl), exactly_filled lines)

  pub filled_exactly : (wanted lines : List (List ℕ)) → Leads script (map (λ line. Exactly line) wanted) lines []
      → lines ≡ wanted
  filled_exactly [] [] goes = refl
  filled_exactly [] (line ∷ lines) goes = absurd goes.1
  filled_exactly (line ∷ wanted) [] goes = absurd cc
  filled_exactly (line ∷ wanted) (text ∷ lines) goes =
      let next : goes.0 ≡ map (λ l. Exactly l) wanted =
      goes.1.2 ∙ ap (λ (s : List Slot). s ++ map (λ l. Exactly l) wanted) goes.1.1.1 in
      let rest = filled_exactly wanted lines (subst (λ (s : List Slot). Leads script s lines []) next goes.2) in
      ap (λ (t : List ℕ). t ∷ lines) goes.1.1.0 ∙ ap (λ (ls : List (List ℕ)). line ∷ ls) rest

  -- ---- slots of elements, one after another

  module _ {X : Type 0} (slot : ℕ → Slot) (lines_for : ℕ → X → List (List ℕ)) (P : ℕ → X → Type 0) where
    pub filled_each : ((i : ℕ) (x : X) → P i x → Leads script (slot i ∷ []) (lines_for i x) []) → (first : ℕ)
        → (xs : List X) → AreAt P first xs
        → Leads script (slots_each slot (length xs) first) (lines_each lines_for first xs) []
    filled_each fills first [] h = refl
    filled_each fills first (x ∷ xs) h = filled_on (Opens script) (slot first ∷ [])
        (slots_each slot (length xs) (first + 1)) (lines_for first x) (lines_each lines_for (first + 1) xs)
        (fills first x h.0) (filled_each fills (first + 1) xs h.1)

    pub record Told (n first : ℕ) (lines : List (List ℕ)) : Type 0 where
      pub xs : List X
      pub long : length xs ≡ n
      pub each : AreAt P first xs
      pub is : lines ≡ lines_each lines_for first xs

    pub each_filled : (below : ℕ) → ((i : ℕ) (lines : List (List ℕ)) → i < below → Leads script (slot i ∷ []) lines []
        → (x : X) × P i x × (lines ≡ lines_for i x)) → (n first : ℕ) → first + n ≤ below → (lines : List (List ℕ))
        → Leads script (slots_each slot n first) lines [] → Told n first lines
    each_filled below tells zero first low [] goes = record { xs = []; long = refl; each = tt; is = refl }
    each_filled below tells zero first low (line ∷ lines) goes = absurd goes.1
    each_filled below tells (suc n) first low lines goes =
        let parts = filled_apart (Opens script) (slot first ∷ []) (slots_each slot n (first + 1)) lines goes in
        let x = tells first parts.mine (omega (arith, low)) parts.first in
        let rest = each_filled below tells n (first + 1) (omega (arith, low)) parts.others parts.then in
        record {
          xs = x.0 ∷ rest.xs;
          long = ap suc rest.long;
          each = (x.1, rest.each);
          is = parts.is ∙ (ap (λ (ls : List (List ℕ)). ls ++ parts.others) x.2
              ∙ ap (λ (ls : List (List ℕ)). lines_for first x.0 ++ ls) rest.is);
        }

  -- ---- a heading, and what it tells of

  pub headed_filled : {X : Type 0} (word name : List ℕ) (slot : Slot) (line : X → List ℕ) (P : X → Type 0)
      → ((x : X) → P x → Opens script slot (line x) []) → (xs : List X) → length xs < 2 ^ 64
      → ((xs ≡ []) ⊎ MayFill script slot) → All P xs
      → Leads script (Headed word name slot ∷ []) (heading word name (length xs) ∷ map line xs) []
  headed_filled {X} word name slot line P opens xs small may h =
      let many = replicate (length xs) slot in (
        many ++ [],
        (many, (length xs, small, counts may, refl, refl), refl),
        subst (λ (s : List Slot). Leads script s (map line xs) []) (sym (append-nil many))
            (filled_many slot line P opens xs h),
      )
    where
      counts : ((xs ≡ []) ⊎ MayFill script slot) → ((length xs ≡ 0) ⊎ MayFill script slot)
      counts (inl none) = inl (ap (λ (l : List X). length l) none)
      counts (inr may) = inr may

  pub record Under {X : Type 0} (word name : List ℕ) (line : X → List ℕ) (P : X → Type 0) (lines : List (List ℕ))
      : Type 0 where
    pub xs : List X
    pub small : length xs < 2 ^ 64
    pub each : All P xs
    pub is : lines ≡ heading word name (length xs) ∷ map line xs

  pub filled_headed : {X : Type 0} (word name : List ℕ) (slot : Slot) (line : X → List ℕ) (P : X → Type 0)
      → ((text : List ℕ) (more : List Slot) → Opens script slot text more → (x : X) × P x × (text ≡ line x)
      × (more ≡ [])) → (lines : List (List ℕ)) → Leads script (Headed word name slot ∷ []) lines []
      → Under word name line P lines
  filled_headed word name slot line P opens [] goes = absurd cc
  filled_headed word name slot line P opens (text ∷ lines) goes =
      let told = goes.1.1 in
      let n : ℕ = told.0 in
      let next : goes.0 ≡ replicate n slot =
      goes.1.2 ∙ (append-nil goes.1.0 ∙ told.4) in
      let items = many_filled slot line P opens n lines
      (subst (λ (s : List Slot). Leads script s lines []) next goes.2) in
      record {
        xs = items.xs;
        small = subst (λ (k : ℕ). k < 2 ^ 64) (sym items.long) told.1;
        each = items.each;
        is = ap (λ (t : List ℕ). t ∷ lines) told.3
            ∙ (ap (λ (k : ℕ). heading word name k ∷ lines) (sym items.long)
            ∙ ap (λ (ls : List (List ℕ)). heading word name (length items.xs) ∷ ls) items.is);
      }
