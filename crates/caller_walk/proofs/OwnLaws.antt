-- A caller's first call among entries, and where the others begin.
use Rattle.std.proofs.Common.{◌≡◌, ℕ, zero, suc, ◌+◌, ◌-◌, ◌<◌, ◌≤◌, ◌==◌, Bool, true, false, List, [], ◌∷◌, length, map, filter, take, drop, get_or, slice_get, Option, Some, None, inl, inr, ◌⊎◌, refl, sym, ap, subst, ◌∙◌, arith, cond}
use Rattle.std.specs.List.{position, position_or_len}
use Rattle.std.specs.Prelude.{nat_lt}
use Rattle.std.proofs.Math.ListN.{drop_of_length-le}
use Rattle.std.proofs.lemmas.Bool.Decides.{nat_tests}
use Rattle.std.proofs.lemmas.Bool.{false≢true}
use Rattle.std.proofs.lemmas.List.{length-drop, take_all}
use Rattle.caller_slots.specs.RunShown.CfTypes.declared.numbers.ConnId.{ConnId}
use Rattle.caller_slots.specs.RunShown.EngineApi.declared.asks.Ask.{Ask}
use Rattle.caller_slots.specs.RunShown.EngineApi.declared.asks.What.{What}
use Rattle.caller_slots.specs.RunShown.EngineApi.declared.histories.Entry.{Entry}
use Rattle.caller_slots.specs.RunShown.EngineApi.History.{Call, calls, own}
use Rattle.caller_slots.specs.RunShown.EngineApi.Told.{told_of}
use Rattle.caller_walk.specs.Heard.{is_own, IsOwnAt}

module _ {C R : Type 0} (conn : ConnId) where
  own_other : (entry : Entry C R) (entries : List (Entry C R)) → is_own conn entry ≡ false
      → own (entry ∷ entries) conn ≡ own entries conn
  own_other entry entries apart = by_what entry.what refl
    where
      by_what : (told : What C) → entry.what ≡ told → own (entry ∷ entries) conn ≡ own entries conn
      by_what (What.Call ask) is = let other : entry.by.0 == conn.0 ≡ false = rw is at apart in rw (is, other) refl
      by_what (What.Lost cf) is = rw is refl

  own_mine : (entry : Entry C R) (entries : List (Entry C R)) → is_own conn entry ≡ true
      → IsOwnAt conn (entry ∷ entries) 0 0
  own_mine entry entries same = by_what entry.what refl
    where
      by_what : (told : What C) → entry.what ≡ told → IsOwnAt conn (entry ∷ entries) 0 0
      by_what (What.Call ask) is =
          let mine : entry.by.0 == conn.0 ≡ true = rw is at same in
          record { entry = entry; there = refl; ask = ask; asks = is; first = rw (is, mine) refl }
      by_what (What.Lost cf) is = let none : false ≡ true = rw is at same in absurd (false≢true none)

  drop_suc : (n : ℕ) (x : Entry C R) (xs : List (Entry C R)) → drop (suc n + 1) (x ∷ xs) ≡ drop (n + 1) xs
  drop_suc n x xs = let is : suc n + 1 ≡ suc (n + 1) = omega arith in rw is refl

  abbrev told_at : (entry : Entry C R) (ask : Ask C) → Call C R
  told_at entry ask = record { no = entry.no; by = entry.by; ask = ask; reply = entry.reply }

  -- one entry more in front
  one_more : (x : Entry C R) (xs : List (Entry C R)) (from place : ℕ) → IsOwnAt conn xs from place
      → IsOwnAt conn (x ∷ xs) (suc from) (suc place)
  one_more x xs from place at = record {
    entry = at.entry;
    there = at.there;
    ask = at.ask;
    asks = at.asks;
    first = at.first ∙ ap (λ (l : List (Entry C R)). told_at at.entry at.ask ∷ own l conn)
        (sym (drop_suc place x xs));
  }

  -- the same from the beginning
  skipped : (x : Entry C R) (xs : List (Entry C R)) (place : ℕ) → is_own conn x ≡ false → IsOwnAt conn xs 0 place
      → IsOwnAt conn (x ∷ xs) 0 (suc place)
  skipped x xs place apart at = record {
    entry = at.entry;
    there = at.there;
    ask = at.ask;
    asks = at.asks;
    first = own_other x xs apart ∙ at.first ∙ ap (λ (l : List (Entry C R)). told_at at.entry at.ask ∷ own l conn)
        (sym (drop_suc place x xs));
  }

  from_start : (xs : List (Entry C R)) → position_or_len (is_own conn) xs < length xs
      → IsOwnAt conn xs 0 (position_or_len (is_own conn) xs)
  from_start [] within = absurd (omega (arith, within))
  from_start (x ∷ xs) within = by_test (is_own conn x) refl within (from_start xs)
    where
      by_test : (b : Bool) → is_own conn x ≡ b → position_or_len (is_own conn) (x ∷ xs) < suc (length xs)
          → (position_or_len (is_own conn) xs < length xs → IsOwnAt conn xs 0 (position_or_len (is_own conn) xs))
          → IsOwnAt conn (x ∷ xs) 0 (position_or_len (is_own conn) (x ∷ xs))
      by_test true mine within rest = rw mine (own_mine x xs mine)
      by_test false apart within rest =
          let less : position_or_len (is_own conn) xs < length xs = (let it = rw apart at within in omega (arith, it)) in
          let is : suc (position_or_len (is_own conn) xs) ≡ 1 + position_or_len (is_own conn) xs = omega arith in
          rw apart (subst (IsOwnAt conn (x ∷ xs) 0) is
          (skipped x xs (position_or_len (is_own conn) xs) apart (rest less)))

  none_own : (xs : List (Entry C R)) → length xs ≤ position_or_len (is_own conn) xs → own xs conn ≡ []
  none_own [] past = refl
  none_own (x ∷ xs) past = by_test (is_own conn x) refl past (none_own xs)
    where
      by_test : (b : Bool) → is_own conn x ≡ b → suc (length xs) ≤ position_or_len (is_own conn) (x ∷ xs)
          → (length xs ≤ position_or_len (is_own conn) xs → own xs conn ≡ []) → own (x ∷ xs) conn ≡ []
      by_test true mine past rest = let none : suc (length xs) ≤ 0 = rw mine at past in absurd (omega (arith, none))
      by_test false apart past rest =
          let more : length xs ≤ position_or_len (is_own conn) xs = (let it = rw apart at past in omega (arith, it)) in
          own_other x xs apart ∙ rest more

  -- where the first entries, so many, are left out
  behind : (from place : ℕ) (xs : List (Entry C R)) → IsOwnAt conn (drop from xs) 0 place
      → IsOwnAt conn xs from (from + place)
  behind zero place xs at = let is : 0 + place ≡ place = omega arith in rw is at
  behind (suc from) place [] at = absurd (let none : None ≡ Some at.entry = at.there in cc)
  behind (suc from) place (x ∷ xs) at =
      let is : suc from + place ≡ suc (from + place) = omega arith in
      rw is (one_more x xs from (from + place) (behind from place xs at))

  pub own_at : (xs : List (Entry C R)) (from : ℕ) → position_or_len (is_own conn) (drop from xs) < length (drop from xs)
      → IsOwnAt conn xs from (from + position_or_len (is_own conn) (drop from xs))
  own_at xs from within = behind from (position_or_len (is_own conn) (drop from xs)) xs (from_start (drop from xs) within)

  pub own_found : (xs : List (Entry C R)) (from place : ℕ) → position (is_own conn) (drop from xs) ≡ Some place
      → IsOwnAt conn xs from (from + place)
  own_found xs from place is = by_test (nat_lt (position_or_len (is_own conn) (drop from xs)) (length (drop from xs))) refl
    where
      by_test : (b : Bool) → nat_lt (position_or_len (is_own conn) (drop from xs)) (length (drop from xs)) ≡ b
          → IsOwnAt conn xs from (from + place)
      by_test true within =
          let same : Some (position_or_len (is_own conn) (drop from xs)) ≡ Some place = rw within at is in
          let number : position_or_len (is_own conn) (drop from xs) ≡ place = cc in
          subst (λ (n : ℕ). IsOwnAt conn xs from (from + n)) number (own_at xs from (grind (arith, nat_tests)))
      by_test false past = let none : None ≡ Some place = rw past at is in absurd cc

  pub own_none : (xs : List (Entry C R)) → position (is_own conn) xs ≡ None → own xs conn ≡ []
  own_none xs is = by_test (nat_lt (position_or_len (is_own conn) xs) (length xs)) refl
    where
      by_test : (b : Bool) → nat_lt (position_or_len (is_own conn) xs) (length xs) ≡ b → own xs conn ≡ []
      by_test true within = let none : Some (position_or_len (is_own conn) xs) ≡ None = rw within at is in absurd cc
      by_test false past = none_own xs (grind (arith, nat_tests))

  -- behind all of them there is none
  pub own_past : (xs : List (Entry C R)) (from : ℕ) → length xs ≤ from → own (drop from xs) conn ≡ []
  own_past xs from past = ap (λ (l : List (Entry C R)). own l conn) (drop_of_length-le xs past)

  pub tail_is : (xs : List (Entry C R)) (from : ℕ) → from ≤ length xs → take (length xs - from) (drop from xs) ≡ drop from xs
  tail_is xs from within =
      let size = length-drop from xs in take_all (length xs - from) (drop from xs) (omega (arith, size))

  pub none_behind : (xs ys : List (Entry C R)) (from : ℕ) → ys ≡ drop from xs → position (is_own conn) ys ≡ None
      → own (drop from xs) conn ≡ []
  none_behind xs ys from is none =
      own_none (drop from xs) (subst (λ (l : List (Entry C R)). position (is_own conn) l ≡ None) is none)

  pub found_behind : (xs ys : List (Entry C R)) (from place : ℕ) → ys ≡ drop from xs
      → position (is_own conn) ys ≡ Some place → IsOwnAt conn xs from (from + place)
  found_behind xs ys from place is found =
      own_found xs from place (subst (λ (l : List (Entry C R)). position (is_own conn) l ≡ Some place) is found)
