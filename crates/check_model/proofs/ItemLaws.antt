-- Which item of a transcript is the first bad one.
use Rattle.std.proofs.Common.{◌≡◌, ℕ, zero, suc, ◌+◌, ◌-◌, ◌<◌, ◌≤◌, inl, inr, List, [], ◌∷◌, ◌++◌, length, take, drop, Option, Some, None, slice_get, refl, sym, ap, subst, ◌∙◌, arith, append_assoc, take-append-drop}
use Rattle.std.specs.Prelude.{All}
use Rattle.std.proofs.lemmas.List.{length-append, length-take, take-append-le}
use Rattle.caller_slots.specs.RunShown.CfTypes.declared.forms.StrForm.{StrForm}
use Rattle.caller_slots.specs.RunShown.CfTypes.declared.numbers.ConnId.{ConnId}
use Rattle.caller_slots.specs.RunShown.CfTypes.declared.numbers.StrNo.{StrNo}
use Rattle.caller_slots.specs.RunShown.PlexScript.declared.asks.AnyHistory.{AnyHistory}
use Rattle.caller_slots.specs.RunShown.PlexScript.declared.scripts.Script.{Script}
use Rattle.caller_slots.specs.RunShown.PlexScript.declared.transcripts.Shown.{Shown}
use Rattle.caller_slots.specs.RunShown.PlexScript.Heard.{calls_on}
use Rattle.caller_slots.specs.RunShown.PlexScript.Follows.{Follows, IsNote}
use Rattle.caller_slots.specs.RunShown.Headline.{TestsTell, TellsOf, place_of}
use Rattle.caller_slots.specs.RunShown.Kinds.{IsAnyLegal, Rising}
use Rattle.caller_slots.specs.Asked.{IsAskedIn, AreAsked}
use Rattle.caller_slots.specs.Slots.{Slot, Calls, Tests, Words, Outside, Posts, Takes, FillsOne, Fills, Ends, AreUsed, AreNotes, IsFilled, slots_of}
use Rattle.caller_slots.proofs.EndLaws.{goes_on}
use Rattle.caller_slots.proofs.FollowLaws.{follows_works, works_follow}
use Rattle.caller_slots.proofs.GapLaws.{fills_each, fills_length}
use Rattle.caller_slots.proofs.SlotLaws.{works_filled, filled_works}
use Rattle.check_model.specs.Judged.{IsGood, IsBadItem}

-- what is filled is asked
one_asked : (slot : Slot) (item : Shown) → FillsOne slot item → IsAskedIn slot
one_asked (Calls on asked call) item fits = fits.1
one_asked (Tests on index) item fits = tt
one_asked (Words on word) item fits = tt
one_asked (Outside on index word len) item fits = tt
one_asked (Posts on) item fits = tt
one_asked (Takes on) item fits = tt

fills_asked : (slots : List Slot) (items : List Shown) → Fills slots items → AreAsked slots
fills_asked [] items fills = tt
fills_asked (slot ∷ slots) [] fills = absurd fills
fills_asked (slot ∷ slots) (item ∷ items) fills =
    (one_asked slot item fills.0, fills_asked slots items fills.1)

get_front : (xs ys : List Shown) (i : ℕ) (x : Shown) → slice_get xs i ≡ Some x → slice_get (xs ++ ys) i ≡ Some x
get_front [] ys i x e = absurd cc
get_front (y ∷ xs) ys zero x e = e
get_front (y ∷ xs) ys (suc i) x e = get_front xs ys i x e

get_take : (xs : List Shown) (n i : ℕ) (x : Shown) → i < n → slice_get xs i ≡ Some x → slice_get (take n xs) i ≡ Some x
get_take xs zero i x few e = absurd (omega (arith, few))
get_take [] (suc n) i x few e = absurd cc
get_take (y ∷ xs) (suc n) zero x few e = e
get_take (y ∷ xs) (suc n) (suc i) x few e = get_take xs n i x (omega (arith, few)) e

take_front : (xs more : List Shown) (k : ℕ) → k < length xs → take k (take (k + 1) xs ++ more) ≡ take k xs
take_front [] more k within = absurd (omega (arith, within))
take_front (x ∷ xs) more zero within = refl
take_front (x ∷ xs) more (suc k) within =
    let is : suc k + 1 ≡ suc (k + 1) = omega arith in
    rw is (ap (λ (l : List Shown). x ∷ l) (take_front xs more k (omega (arith, within))))

long_front : (xs more : List Shown) (k : ℕ) → k < length xs → k < length (take (k + 1) xs ++ more)
long_front [] more k within = absurd (omega (arith, within))
long_front (x ∷ xs) more zero within = omega arith
long_front (x ∷ xs) more (suc k) within =
    let is : suc k + 1 ≡ suc (k + 1) = omega arith in
    let rest = long_front xs more k (omega (arith, within)) in rw is (omega (arith, rest))

module _ (script : Script) (histories : List AnyHistory) (conn : ConnId)
    (long : length histories ≡ length script.structures)
    (known : All (λ line. line.on.0 < length script.structures) script.lines)
    (rise : (on : StrNo) → Rising 0 (calls_on histories on))
    (legal : (x : ℕ) (form : StrForm) (entries : AnyHistory) → slice_get script.structures x ≡ Some form
    → slice_get histories x ≡ Some entries → IsAnyLegal form entries) where
  abbrev slots : List Slot
  slots = (slots_of script histories conn).slots

  abbrev Good : List Shown → Type 0
  Good items = IsGood script histories conn items

  good_filled : (items : List Shown) → Good items → IsFilled script histories conn items
  good_filled items good =
      works_filled script histories conn long known rise items (follows_works script histories conn items good.0)

  -- the caller's calls are those that its lines ask
  pub record IsSound : Type 0 where
    pub ends : (slots_of script histories conn).end ≡ Ends
    pub used : AreUsed (slots_of script histories conn).places
    pub asked : AreAsked slots

  good_sound : (items : List Shown) → Good items → IsSound
  good_sound items good =
      let filled = good_filled items good in
      record { ends = filled.ends; used = filled.used; asked = fills_asked slots items filled.fills }

  -- where they aren't, no transcript is good
  pub bad_whole : (items : List Shown) → (IsSound → ⊥) → IsBadItem script histories conn items 1
  bad_whole items unsound = record {
    some = omega arith;
    last = omega arith;
    before = inl refl;
    here = λ within more good. unsound (good_sound (take 1 items ++ more) good);
    lacks = λ is good. unsound (good_sound items good);
  }

  pub good_whole : (items : List Shown) → IsSound → Fills slots items → AreNotes histories items
      → TestsTell script.structures histories conn items → Good items
  good_whole items sound fills notes tests = (
    works_follow script histories conn items (filled_works script histories conn long known rise items
        (record { ends = sound.ends; fills = fills; used = sound.used; notes = notes })),
    tests,
  )

  -- ---- the first that isn't right, behind so many that are

  module _ (items : List Shown) (k : ℕ) (sound : IsSound) (few : k ≤ length items)
      (fills : Fills (take k slots) (take k items)) (notes : AreNotes histories (take k items))
      (tests : TestsTell script.structures histories conn (take k items)) where
    before : (more : List Shown) × Good (take k items ++ more)
    before =
        let size : length (take k items) ≡ k = grind (arith, length-take) in
        let on = goes_on script histories conn long known rise legal sound.ends sound.used (take k items) sound.asked
        (subst (λ (n : ℕ). Fills (take n slots) (take k items)) (sym size) fills) notes tests in
        (on.0, (on.1, on.2))

    pub bad_at : ((more : List Shown) → k < length items → Good (take (k + 1) items ++ more) → ⊥)
        → (k ≡ length items → Good items → ⊥) → IsBadItem script histories conn items (k + 1)
    bad_at wrong lacking = record {
      some = omega arith;
      last = omega (arith, few);
      before = inr (let is : k + 1 - 1 ≡ k = omega arith in rw is before);
      here = λ within more good. wrong more (omega (arith, within)) good;
      lacks = λ is good. lacking (omega (arith, is)) good;
    }

    none_behind : (item : Shown) → slice_get items k ≡ Some item → k < length items → k ≡ length items → ⊥
    none_behind item at within is = omega (arith, within, is)

    module _ (item : Shown) (at : slice_get items k ≡ Some item) (within : k < length items) where
      in_good : (more : List Shown) → slice_get (take (k + 1) items ++ more) k ≡ Some item
      in_good more = get_front (take (k + 1) items) more k item (get_take items (k + 1) k item (omega arith) at)

      -- it doesn't fit its slot
      pub bad_fit : (slot : Slot) → slice_get slots k ≡ Some slot → (FillsOne slot item → ⊥)
          → IsBadItem script histories conn items (k + 1)
      bad_fit slot there wrong = bad_at
          (λ more within' good. wrong (fills_each slots (take (k + 1) items ++ more)
          (let filled = good_filled (take (k + 1) items ++ more) good in filled.fills) k slot item there (in_good more)))
          (λ is. absurd (none_behind item at within is))

      -- it is one too many
      pub bad_more : length slots ≤ k → IsBadItem script histories conn items (k + 1)
      bad_more past = bad_at
          (λ more within' good. (let filled = good_filled (take (k + 1) items ++ more) good in
          let size = fills_length slots (take (k + 1) items ++ more) filled.fills in
          let longer = long_front items more k within in omega (arith, size, longer, past)))
          (λ is. absurd (none_behind item at within is))

      -- it shows another number than a POST or a TAKE may
      pub bad_note : (IsNote histories (take k items) item → ⊥) → IsBadItem script histories conn items (k + 1)
      bad_note wrong = bad_at
          (λ more within' good. (let filled = good_filled (take (k + 1) items ++ more) good in
          let note = filled.notes k item (in_good more) in
          wrong (subst (λ (b : List Shown). IsNote histories b item) (take_front items more k within) note)))
          (λ is. absurd (none_behind item at within is))

      -- its test tells what never stood
      pub bad_test : (form : StrForm) (entries : AnyHistory) → slice_get script.structures (place_of item).0 ≡ Some form
          → slice_get histories (place_of item).0 ≡ Some entries
          → (TellsOf form entries conn (place_of item) (take k items) item → ⊥)
          → IsBadItem script histories conn items (k + 1)
      bad_test form entries known' there wrong = bad_at
          (λ more within' good. wrong (subst (λ (b : List Shown). TellsOf form entries conn (place_of item) b item)
          (take_front items more k within) (good.1 k item form entries (in_good more) known' there)))
          (λ is. absurd (none_behind item at within is))

    -- items are lacking
    pub bad_end : k ≡ length items → k < length slots → IsBadItem script histories conn items (k + 1)
    bad_end is short = bad_at
        (λ more within good. absurd (omega (arith, is, within)))
        (λ _ good. (let filled = good_filled items good in
        let size = fills_length slots items filled.fills in omega (arith, size, is, short)))
