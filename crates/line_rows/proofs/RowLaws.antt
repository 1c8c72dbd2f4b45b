-- Printing a row and reading it undo each other.
use Rattle.std.proofs.Common.{◌≡◌, ℕ, ◌==◌, ◌≤◌, true, false, cond, List, [], ◌∷◌, length, map, Option, Some, None, option_map, refl, sym, ap, ◌∙◌, arith}
use Rattle.std.specs.Fmt.{decimal}
use Rattle.std.specs.List.{list_all}
use Rattle.std.proofs.lemmas.Bool.{and_from}
use Rattle.std.proofs.lemmas.Bool.Decides.{nat_tests}
use Rattle.plex_spell.specs.declared.rigour.Rigour.TheVariants.{Names}
use Rattle.plex_spell.specs.Words.{same_word, begins_with, words_behind}
use Rattle.plex_spell.specs.Places.{◌>>=◌, on_first, number_of}
use Rattle.plex_spell.proofs.Choices.{chosen, not_some, mapped, bound, word-same, same_word-refl}
use Rattle.plex_spell.proofs.WordLaws.{number-sound, number-strict}
use Rattle.line_rows.proofs.Words.{number-word}
use Rattle.line_rows.specs.Rows.{is_word, Single, Row, IsSingle, IsRow, nothing_more, done, led, and_then, optional, all_values, counted_of, counted, AreIn, or_else, form, first_of, numbered, IsForth, AreForth, Both, IfGiven, AreCounted}

-- no two values print alike
pub one_value : {V : Type 0} (In : V → Type 0) (row : Row V) → IsRow In row → (a b : V) → In a → In b
    → row.words a ≡ row.words b → a ≡ b
one_value {V} In row is a b in_a in_b e =
    let both : Some a ≡ Some b = sym (is.back a in_a) ∙ ap row.values e ∙ is.back b in_b in
    cc

pub done-is : IsRow (λ v. Unit {0}) done
done-is = record { back = λ v h. refl; forth = λ ws v h. ends ws v h }
  where
    ends : (ws : List (List ℕ)) (v : Unit {0}) → nothing_more tt ws ≡ Some v
        → ([] ≡ ws) × Unit {0} × (list_all is_word ws ≡ true)
    ends [] v h = (refl, tt, refl)
    ends (w ∷ ws) v h = absurd (cc)

pub led-is : {V : Type 0} (In : V → Type 0) (word : List ℕ) → is_word word ≡ true → (row : Row V) → IsRow In row
    → IsRow In (led word row)
led-is {V} In word good row is = record {
  back = λ v h. rw (same_word-refl word) (is.back v h);
  forth = λ ws v h. begun ws v h;
}
  where
    begun : (ws : List (List ℕ)) (v : V) → cond (begins_with word ws) (row.values (words_behind ws)) None ≡ Some v
        → (word ∷ row.words v ≡ ws) × In v × (list_all is_word ws ≡ true)
    begun [] v h = absurd (cc)
    begun (w ∷ ws) v h = chosen (same_word w word) (row.values ws) None v (λ same read.
        let f = is.forth ws v read in
        let g : w ≡ word = word-same w word same in
        let k : row.words v ≡ ws = f.0 in
        (cc, f.1, and_from (is_word w) (list_all is_word ws) (ap is_word g ∙ good) f.2)) (λ _ none. not_some v none) h

-- what is read at the front
pub record Read {A V : Type 0} (one : Single A) (row : Row V) (ws : List (List ℕ)) (a : A) (v : V) : Type 0 where
  pub first : List ℕ
  pub rest : List (List ℕ)
  pub is : ws ≡ first ∷ rest
  pub value : one.value first ≡ Some a
  pub values : row.values rest ≡ Some v

pub front_read : {A V R : Type 0} (one : Single A) (row : Row V) (put : A → V → R) (ws : List (List ℕ)) (r : R)
    → (on_first one.value ws >>= (λ (read : A × List (List ℕ)). option_map (put read.0) (row.values read.1))) ≡ Some r
    → (a : A) × (v : V) × (put a v ≡ r) × Read one row ws a v
front_read {A} {V} {R} one row put [] r h = absurd (cc)
front_read {A} {V} {R} one row put (w ∷ ws) r h =
    let b = bound (λ (read : A × List (List ℕ)). option_map (put read.0) (row.values read.1))
    (option_map (λ (x : A). (x, ws)) (one.value w)) r h in
    let m = mapped (λ (x : A). (x, ws)) (one.value w) b.value b.read in
    let n = mapped (put b.value.0) (row.values b.value.1) r b.then_ in
    let same : m.value ≡ b.value.0 = ap (λ (p : A × List (List ℕ)). p.0) m.made in
    let behind : ws ≡ b.value.1 = ap (λ (p : A × List (List ℕ)). p.1) m.made in (
      b.value.0,
      n.value,
      n.made,
      record {
        first = w;
        rest = ws;
        is = refl;
        value = m.read ∙ ap Some same;
        values = ap row.values behind ∙ n.read;
      },
    )

pub and_then-is : {A V : Type 0} (P : A → Type 0) (Q : V → Type 0) (one : Single A) (row : Row V)
    → IsSingle P one → IsRow Q row → IsRow (Both P Q) (and_then one row)
and_then-is {A} {V} P Q one row is rest = record {
  back = λ v h. rw (is.back v.0 h.0, rest.back v.1 h.1) refl;
  forth = λ ws v h.
      let f = front_read one row (λ (a : A) (x : V). (let p : A × V = (a, x) in p)) ws v h in
      let a = is.forth f.3.first f.0 f.3.value in
      let b = rest.forth f.3.rest f.1 f.3.values in
      let e : (let p : A × V = (f.0, f.1) in p) ≡ v = f.2 in
      let words : one.word f.0 ∷ row.words f.1 ≡ ws = (let x = a.0 in let y = b.0 in let z = f.3.is in cc) in
      let all = ap (list_all is_word) f.3.is ∙ and_from (is_word f.3.first) (list_all is_word f.3.rest) a.2 b.2 in
      rw (← e) (words, (a.1, b.1), all);
}

-- ---- options

-- the row never begins with this word
abbrev pub Avoids : {V : Type 0} → List ℕ → Row V → Type 0
Avoids {V} word row = (v : V) → begins_with word (row.words v) ≡ false

pub optional-is : {A V : Type 0} (P : A → Type 0) (Q : V → Type 0) (word : List ℕ) → is_word word ≡ true
    → (one : Single A) (row : Row V) → IsSingle P one → IsRow Q row → Avoids word row
    → IsRow (Both (IfGiven P) Q) (optional word one row)
optional-is {A} {V} P Q word good one row is rest avoids =
    record { back = λ v h. given v.0 v.1 h; forth = λ ws v h. told ws v h }
  where
    given : (o : Option A) (v : V)
        → IfGiven P o × Q v → (optional word one row).values ((optional word one row).words (o, v)) ≡ Some (o, v)
    given None v h = rw (avoids v, rest.back v h.1) refl
    given (Some a) v h = rw (same_word-refl word, is.back a h.0, rest.back v h.1) refl

    absent : (ws : List (List ℕ)) (r : Option A × V) → option_map (λ (v : V). (let p : Option A × V = (None, v) in p))
        (row.values ws) ≡ Some r
        → ((optional word one row).words r ≡ ws) × (IfGiven P r.0 × Q r.1) × (list_all is_word ws ≡ true)
    absent ws r h =
        let m = mapped (λ (v : V). (let p : Option A × V = (None, v) in p)) (row.values ws) r h in
        let f = rest.forth ws m.value m.read in
        rw (← m.made) (f.0, (tt, f.1), f.2)

    told : (ws : List (List ℕ)) (r : Option A × V) → (optional word one row).values ws ≡ Some r
        → ((optional word one row).words r ≡ ws) × (IfGiven P r.0 × Q r.1) × (list_all is_word ws ≡ true)
    told [] r h = absent [] r h
    told (w ∷ ws) r h = chosen (same_word w word) (on_first one.value ws >>= (λ (read : A × List (List ℕ)). option_map
        (λ (v : V). (let p : Option A × V = (Some read.0, v) in p)) (row.values read.1)))
        (option_map (λ (v : V). (let p : Option A × V = (None, v) in p)) (row.values (w ∷ ws))) r (λ same read.
        let f = front_read one row (λ (a : A) (x : V). (let p : Option A × V = (Some a, x) in p)) ws r read in
        let a = is.forth f.3.first f.0 f.3.value in
        let b = rest.forth f.3.rest f.1 f.3.values in
        let e : (let p : Option A × V = (Some f.0, f.1) in p) ≡ r = f.2 in
        let g : w ≡ word = word-same w word same in
        let words : word ∷ one.word f.0 ∷ row.words f.1 ≡ w ∷ ws =
        (let x = a.0 in let y = b.0 in let z = f.3.is in cc) in
        let behind = ap (list_all is_word) f.3.is
        ∙ and_from (is_word f.3.first) (list_all is_word f.3.rest) a.2 b.2 in
        let all = and_from (is_word w) (list_all is_word ws) (ap is_word g ∙ good) behind in
        rw (← e) (words, (a.1, b.1), all)) (λ _ read. absent (w ∷ ws) r read) h

-- ---- lists

all-back : {A : Type 0} (P : A → Type 0) (one : Single A) → IsSingle P one → (xs : List A) → AreIn P xs
    → all_values one (map one.word xs) ≡ Some xs
all-back P one is [] h = refl
all-back P one is (x ∷ xs) h = rw (is.back x h.0, all-back P one is xs h.1) refl

all-forth : {A : Type 0} (P : A → Type 0) (one : Single A) → IsSingle P one → (ws : List (List ℕ)) (xs : List A)
    → all_values one ws ≡ Some xs → (map one.word xs ≡ ws) × AreIn P xs × (list_all is_word ws ≡ true)
all-forth {A} P one is [] xs h = let e : [] ≡ xs = cc in rw (← e) (refl, tt, refl)
all-forth {A} P one is (w ∷ ws) xs h =
    let b = bound (λ (a : A). option_map (λ (more : List A). a ∷ more) (all_values one ws)) (one.value w) xs h in
    let m = mapped (λ (more : List A). b.value ∷ more) (all_values one ws) xs b.then_ in
    let a = is.forth w b.value b.read in
    let more = all-forth P one is ws m.value m.read in
    let e : b.value ∷ m.value ≡ xs = m.made in
    let words : one.word b.value ∷ map one.word m.value ≡ w ∷ ws = (let x = a.0 in let y = more.0 in cc) in
    rw (← e) (words, (a.1, more.1), and_from (is_word w) (list_all is_word ws) a.2 more.2)

pub counted-is : {A : Type 0} (P : A → Type 0) (one : Single A) → IsSingle P one → IsRow (AreCounted P) (counted one)
counted-is {A} P one is = record { back = λ xs h. back xs h; forth = λ ws xs h. forth ws xs h }
  where
    back : (xs : List A) → AreCounted P xs → (counted one).values ((counted one).words xs) ≡ Some xs
    back xs h =
        let same : (length xs == length xs) ≡ true = grind (arith, nat_tests) in
        rw (
          number-strict Names 0 4294967295 (decimal (length xs)) (length xs) (omega arith) refl (omega arith) h.0,
          all-back P one is xs h.1,
          same,
        ) refl

    kept : (n : ℕ) (ys xs : List A) → cond (length ys == n) (Some ys) None ≡ Some xs → (length xs ≡ n) × (ys ≡ xs)
    kept n ys xs h = chosen (length ys == n) (Some ys) None xs (λ e k. let same : ys ≡ xs =
        cc in let len : length ys ≡ n = grind (arith, nat_tests) in (rw (← same) len, same)) (λ _ k. not_some xs k) h

    forth : (ws : List (List ℕ)) (xs : List A) → (counted one).values ws ≡ Some xs
        → ((counted one).words xs ≡ ws) × AreCounted P xs × (list_all is_word ws ≡ true)
    forth [] xs h = absurd (cc)
    forth (w ∷ ws) xs h =
        let b = bound (λ (read : ℕ × List (List ℕ)). counted_of one read.0 read.1)
        (option_map (λ (x : ℕ). (x, ws)) (number_of Names 0 4294967295 w)) xs h in
        let m = mapped (λ (x : ℕ). (x, ws)) (number_of Names 0 4294967295 w) b.value b.read in
        let c = bound
        (λ (ys : List A). cond (length ys == b.value.0) (Some ys) None) (all_values one b.value.1) xs b.then_ in
        let k = kept b.value.0 c.value xs c.then_ in
        let n = number-sound Names 0 4294967295 (omega arith) w m.value m.read in
        let same : m.value ≡ b.value.0 = ap (λ (p : ℕ × List (List ℕ)). p.0) m.made in
        let behind : ws ≡ b.value.1 = ap (λ (p : ℕ × List (List ℕ)). p.1) m.made in
        let items = all-forth P one is b.value.1 c.value c.read in
        let len : length xs ≡ m.value = k.0 ∙ sym same in
        let count : decimal (length xs) ≡ w = ap decimal len ∙ sym n.1.0 in
        let all : map one.word xs ≡ ws = ap (map one.word) (sym k.1) ∙ items.0 ∙ sym behind in
        let most : length xs ≤ 4294967295 = omega (arith, len, n.1.2) in
        let first : is_word w ≡ true = ap is_word n.1.0 ∙ number-word m.value (omega (arith, n.1.2)) in
        let words = and_from (is_word w) (list_all is_word ws) first (ap (list_all is_word) behind ∙ items.2) in
        (cc, (most, rw (← k.1) items.1), words)

-- ---- kinds of lines

pub either_way : {R G : Type 0} (o other : Option R) (r : R)
    → or_else o other ≡ Some r → (o ≡ Some r → G) → (other ≡ Some r → G) → G
either_way None other r h f g = g h
either_way (Some x) other r h f g = f h

-- the laws of the forms of a table, a form a line
infixr 5 ◌or◌
abbrev pub ◌or◌ : {P Q : Type 0} → P → Q → P × Q
p or q = (p, q)

pub first-forth : {R : Type 0} (In : R → Type 0) (words : R → List (List ℕ))
    (readings : List (List (List ℕ) → Option R)) → AreForth In words readings → IsForth In words (first_of readings)
first-forth {R} In words [] are ws r h = absurd (cc)
first-forth {R} In words (reading ∷ readings) are ws r h = either_way
    (reading ws) (first_of readings ws) r h (λ e. are.0 ws r e) (λ e. first-forth In words readings are.1 ws r e)

-- a form gives what its row gives
pub form-forth : {V R : Type 0}
    (In : R → Type 0) (words : R → List (List ℕ)) (P : V → Type 0) (row : Row V) (make : V → R)
    → IsRow P row → ((v : V) → P v → (words (make v) ≡ row.words v) × In (make v)) → IsForth In words (form row make)
form-forth {V} {R} In words P row make is same ws r h =
    let m = mapped make (row.values ws) r h in
    let f = is.forth ws m.value m.read in
    let s = same m.value f.1 in
    rw (← m.made) (s.0 ∙ f.0, s.1, f.2)

-- ---- words that a row doesn't begin with

pub done-avoids : (word : List ℕ) → Avoids word done
done-avoids word v = refl

pub optional-avoids : {A V : Type 0} (word other : List ℕ) (one : Single A) (row : Row V)
    → same_word other word ≡ false → Avoids word row → Avoids word (optional other one row)
optional-avoids {A} {V} word other one row apart avoids v = at v.0
  where
    at : (o : Option A) → begins_with word ((optional other one row).words (o, v.1)) ≡ false
    at None = avoids v.1
    at (Some a) = apart

pub front-avoids : {A V : Type 0} (word : List ℕ) (one : Single A) (row : Row V)
    → ((a : A) → same_word (one.word a) word ≡ false) → Avoids word (and_then one row)
front-avoids word one row apart v = apart v.0

-- ---- numbered forms

pub numbered-forth : {V R : Type 0} (In : R → Type 0) (words : R → List (List ℕ)) (number : R → ℕ) (P : V → Type 0)
    (row : Row V) (make : V → R) (k n : ℕ) → IsRow P row → ((v : V) → P v → (number (make v) ≡ k) × ((words (make v)
    ≡ row.words v) × In (make v))) → IsForth (λ r. (number r ≡ n) × In r) words (numbered k (form row make) n)
numbered-forth {V} {R} In words number P row make k n is same ws r h = chosen (n == k) (form row make ws) None r
    (λ e read.
    let at : k ≡ n = grind (arith, nat_tests) in
    let m = mapped make (row.values ws) r read in
    let f = is.forth ws m.value m.read in
    let s = same m.value f.1 in
    rw (← m.made) (s.1.0 ∙ f.0, (s.0 ∙ at, s.1.1), f.2)) (λ _ none. not_some r none) h
