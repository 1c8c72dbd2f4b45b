-- Printing a word and reading it undo each other.
use Rattle.std.proofs.Common.{◌≡◌, ℕ, ◌+◌, ◌-◌, ◌==◌, ◌<◌, ◌≤◌, ◌^◌, Bool, true, false, not, cond, nat_lt, List, [], ◌∷◌, ◌++◌, length, get_or, replicate, position, codes, Option, Some, None, option_map, refl, sym, ap, ◌∙◌, subst, arith, lit<, zero, suc, append_assoc}
use Rattle.std.specs.Fmt.{decimal}
use Rattle.std.specs.List.{list_all, position_or_len, before_first, after_first}
use Rattle.std.specs.Char.{is_ascii_digit}
use Rattle.std.proofs.lemmas.Bool.{and_parts, and_from}
use Rattle.std.proofs.lemmas.Bool.Decides.{nat_tests}
use Rattle.std.proofs.lemmas.Fmt.{decimal_digit}
use Rattle.std.proofs.lemmas.List.Sums.{take_while-cons, passes_at_first}
use Rattle.cf_types.specs.declared.names.Name16.{Name16}
use Rattle.cf_types.specs.declared.numbers.CfId.{CfId}
use Rattle.cf_types.specs.declared.numbers.ConnId.{ConnId}
use Rattle.cf_types.specs.Forms.{IsFacility}
use Rattle.cf_types.specs.Term.{IsTerm, IsPadded, block_of, text_in_block, term_byte}
use Rattle.plex_spell.specs.declared.rigour.Rigour.TheVariants.{Names}
use Rattle.plex_spell.specs.Words.{is_nonempty, same_word}
use Rattle.plex_spell.specs.Tokens.{Declared, is_term, is_numeral, name_word, facility_of, connector_of}
use Rattle.plex_spell.specs.Tokens.Token.{Term, NewFacility}
use Rattle.plex_spell.specs.Places.{◌>>=◌, stands_in}
use Rattle.plex_spell.proofs.Choices.{chosen, not_some, mapped, bound, word-same, same_word-refl}
use Rattle.plex_spell.proofs.NumberLaws.{numeral-decimal}
use Rattle.plex_spell.proofs.TextLaws.{characters-term, term_from, IsTerm-whole}
use Rattle.plex_spell.proofs.WordLaws.{number-sound, number-strict, text-sound, text-complete, name-sound, name-complete, key-sound, key-complete}
use Rattle.plex_spell.proofs.CutLaws.{IsCut-stands, parts-IsCut}
use Rattle.plex_plain.specs.Naming.{facility_word, caller_name}
use Rattle.plex_plain.specs.Ranges.{IsOneOf, AreNames}
use Rattle.plex_plain.proofs.Tests.{all-weaker, all-append}
use Rattle.plex_plain.proofs.Places.{caller-word}
use Rattle.plex_plain.proofs.Said.{facility-said, connector-said, term-said}
use Rattle.plex_plain.proofs.Within.{connector-bounds, words-within}
use Rattle.line_rows.proofs.Words.{number-word, text-word, name-word, facility-word, caller-said, joined-word}
use Rattle.line_rows.specs.Rows.{is_plain, is_word, Single, IsSingle, Both, IfGiven}
use Rattle.line_rows.specs.Singles.{number, IsNumber, text, a_name, IsAName, a_key, IsAKey, a_facility, a_connector, value_behind, marked, either, or_word, joined, as_one, spelled_of, spelled}

pub number-is : (high : ℕ) → high < 2 ^ 64 → IsSingle (IsNumber high) (number high)
number-is high small = record {
  back = λ n h. number-strict Names 0 high (decimal n) n small refl (omega arith) h;
  forth = λ w n h.
      let s = number-sound Names 0 high small w n h in
      (sym s.1.0, s.1.2, ap is_word s.1.0 ∙ number-word n (omega (arith, s.1.2)));
}

no_names : Declared
no_names = record { facilities = []; structures = []; connectors = [] }

pub text-is : (limit : ℕ) → IsSingle (IsTerm limit) (text limit)
text-is limit = record {
  back = λ t h. let c = text-complete Names limit t t (term_from t h.nonempty h.characters, (h.short, refl)) in c.read
      ∙ ap Some (c.same refl);
  forth = λ w t h.
      let s = text-sound Names limit w t h in
      let whole = IsTerm-whole limit w s.1.0 s.0 in
      (s.1.1, subst (IsTerm limit) (sym s.1.1) whole, text-word limit w whole);
}

-- ---- names and keys

no_blank : (b : ℕ) → term_byte b ≡ true → not (b == 32) ≡ true
no_blank b h = grind (arith, nat_tests)

word-front : (word : List ℕ) (n : ℕ) → list_all term_byte word ≡ true → text_in_block (word ++ replicate n 32) ≡ word
word-front [] zero h = refl
word-front [] (suc n) h = take_while-cons (λ b. not (b == 32)) 32 (replicate n 32)
word-front (b ∷ word) n h =
    let parts = and_parts (term_byte b) (list_all term_byte word) h in
    let here = no_blank b parts.0 in
    take_while-cons (λ c. not (c == 32)) b (word ++ replicate n 32)
    ∙ (rw here (ap (λ (w : List ℕ). b ∷ w) (word-front word n parts.1)))

unpadded : (bytes word : List ℕ) → is_term word ≡ true → bytes ≡ block_of word → text_in_block bytes ≡ word
unpadded bytes word term e = ap text_in_block e ∙ word-front word (16 - length word) (characters-term word term)

padded : (bytes word : List ℕ) → is_term word ≡ true → length word ≤ 16 → bytes ≡ block_of word → IsPadded bytes
padded bytes word term short e = (words-within no_names (Term bytes ∷ []) (word ∷ []) [] ((term, (short, e)), refl)).0

pub name-is : IsSingle IsAName a_name
name-is = record {
  back = λ n h. let c =
      name-complete Names (name_word n) n (term-said n.0 h, (h.0.short, h.1)) in c.read ∙ ap Some (c.same refl);
  forth = λ w n h.
      let s = name-sound Names w n h in
      let said = unpadded n.0 w s.0 s.1.1 in
      let is = padded n.0 w s.0 s.1.0 s.1.1 in
      (said, is, ap is_word (sym said) ∙ name-word n is);
}

pub key-is : IsSingle IsAKey a_key
key-is = record {
  back = λ n h. let c =
      key-complete Names (text_in_block n.0) n (term-said n.0 h, (h.0.short, h.1)) in c.read ∙ ap Some (c.same refl);
  forth = λ w n h.
      let s = key-sound Names w n h in
      let said = unpadded n.0 w s.0 s.1.1 in
      let is = padded n.0 w s.0 s.1.0 s.1.1 in
      (said, is, ap is_word (sym said) ∙ name-word (record { 0 = n.0 }) is);
}

-- ---- facilities and connectors

pub facility-is : IsSingle IsFacility a_facility
facility-is = record {
  back = facility-said;
  forth = λ w cf h.
      let is = (words-within no_names (NewFacility cf ∷ []) (w ∷ []) [] (h, refl)).0 in
      (said w cf h, is, ap is_word (sym (said w cf h)) ∙ facility-word cf (grind (arith, IsFacility)));
}
  where
    named : (w word : List ℕ) (n : ℕ) (cf : CfId) → codes "CF" ++ decimal n ≡ word → same_word w word ≡ true
        → (let f : CfId = record { 0 = n } in Some f) ≡ Some cf → facility_word cf ≡ w
    named w word n cf spelled same e =
        let n_is : (let f : CfId = record { 0 = n } in f) ≡ cf = cc in
        rw (← n_is) (spelled ∙ sym (word-same w word same))

    digit : (n : ℕ) → n < 10 → codes "CF" ++ decimal n ≡ codes "CF" ++ (48 + n) ∷ []
    digit n low = ap (λ (d : List ℕ). codes "CF" ++ d) (decimal_digit n low)

    said : (w : List ℕ) (cf : CfId) → facility_of w ≡ Some cf → facility_word cf ≡ w
    said w cf h = chosen (same_word w (codes "CF1")) (Some (record { 0 = 1 }))
        _ cf (λ s k. named w (codes "CF1") 1 cf (digit 1 (lit< tt)) s k) (λ _ h2. chosen (same_word w (codes "CF2"))
        (Some (record { 0 = 2 })) _ cf (λ s k. named w (codes "CF2") 2 cf (digit 2 (lit< tt)) s k)
        (λ _ h3. chosen (same_word w (codes "CF3")) (Some (record { 0 = 3 })) _ cf (λ s k. named w (codes "CF3")
        3 cf (digit 3 (lit< tt)) s k) (λ _ h4. chosen (same_word w (codes "CF4")) (Some (record { 0 = 4 }))
        None cf (λ s k. named w (codes "CF4") 4 cf (digit 4 (lit< tt)) s k) (λ _ k. not_some cf k) h4) h3) h2) h

no_name : Name16
no_name = record { 0 = [] }

pub connector-is : (connectors : List Name16)
    → AreNames connectors → IsSingle (IsOneOf (length connectors)) (a_connector connectors)
connector-is connectors names = record {
  back = λ conn h. (connector-said connectors conn names h.0 h.1).1;
  forth = λ w conn h.
      let is = connector-bounds connectors w conn h in
      (said w conn h, is, ap is_word (sym (said w conn h)) ∙ caller-said connectors conn.0 names is.1);
}
  where
    said : (w : List ℕ) (conn : ConnId) → connector_of connectors w ≡ Some conn → caller_name connectors conn.0 ≡ w
    said w conn h =
        let p : Name16 → Bool = λ name. same_word (name_word name) w in
        let m =
        mapped (λ (place : ℕ). (let c : ConnId = record { 0 = place + 1 } in c)) (position p connectors) conn h in
        let range = connector-bounds connectors w conn h in
        let at : m.value + 1 ≡ conn.0 = ap (λ (c : ConnId). c.0) m.made in
        let first = any-place_is p connectors m.value m.read in
        let low : position_or_len p connectors < length connectors = omega (arith, at, first, range.1) in
        let passes = passes_at_first p connectors no_name low in
        let here : conn.0 - 1 ≡ position_or_len p connectors = omega (arith, at, first) in
        caller-word connectors conn.0 no_name range.0 range.1 ∙ ap (λ (i : ℕ). name_word (get_or connectors
        i no_name)) here ∙ word-same (name_word (get_or connectors (position_or_len p connectors) no_name)) w passes
      where
        any-place_is : (p : Name16 → Bool) (xs : List Name16) (i : ℕ)
            → position p xs ≡ Some i → i ≡ position_or_len p xs
        any-place_is p xs i e = at_test (nat_lt (position_or_len p xs) (length xs)) e
          where
            at_test : (b : Bool) → cond b (Some (position_or_len p xs)) None ≡ Some i → i ≡ position_or_len p xs
            at_test true k = cc
            at_test false k = absurd (cc)

-- ---- words of several parts

pub marked-is : {V : Type 0} (In : V → Type 0) (at : ℕ) (one : Single V) → is_plain at ≡ true → IsSingle In one
    → IsSingle In (marked at one)
marked-is {V} In at one good is = record {
  back = λ v h. let same : (at == at) ≡ true = grind (arith, nat_tests) in rw same (is.back v h);
  forth = λ w v h. cut w v h;
}
  where
    cut : (w : List ℕ) (v : V) → value_behind at one w ≡ Some v → (at ∷ one.word v ≡ w) × In v × (is_word w ≡ true)
    cut [] v h = absurd (cc)
    cut (b ∷ w) v h = chosen (b == at) (one.value w) None v (λ same read.
        let f = is.forth w v read in
        let g : b ≡ at = grind (arith, nat_tests) in
        let k : one.word v ≡ w = f.0 in
        let behind = (and_parts (is_nonempty w) (list_all is_plain w) f.2).1 in
        let here : is_plain b ≡ true = ap is_plain g ∙ good in
        (cc, f.1, and_from (is_plain b) (list_all is_plain w) here behind)) (λ _ none. not_some v none) h

pub either-is : (first second : List ℕ) → same_word second first ≡ false
    → is_word first ≡ true → is_word second ≡ true → IsSingle (λ (b : Bool). Unit {0}) (either first second)
either-is first second apart good also = record { back = back; forth = forth }
  where
    back : (b : Bool) → Unit {0} → (either first second).value ((either first second).word b) ≡ Some b
    back true h = rw (same_word-refl first) refl
    back false h = rw (apart, same_word-refl second) refl

    forth : (w : List ℕ) (b : Bool)
        → (either first second).value w ≡ Some b → ((either first second).word b ≡ w) × Unit {0} × (is_word w ≡ true)
    forth w b h = chosen (same_word w first) (Some true) (cond (same_word w second) (Some false) None) b (λ same k.
        let e : true ≡ b = cc in
        let said = word-same w first same in
        rw (← e) (sym said, tt, ap is_word said ∙ good)) (λ _ k. chosen (same_word w second) (Some false) None b
        (λ same m.
        let e : false ≡ b = cc in
        let said = word-same w second same in
        rw (← e) (sym said, tt, ap is_word said ∙ also)) (λ _ m. not_some b m) k) h

pub or_word-is : {V : Type 0} (In : V → Type 0) (none : List ℕ) → is_word none ≡ true
    → (one : Single V) → IsSingle In one → one.value none ≡ None → IsSingle (IfGiven In) (or_word none one)
or_word-is {V} In none good one is apart = record { back = back; forth = forth }
  where
    other : (v : V) → In v → (b : Bool) → same_word (one.word v) none ≡ b → b ≡ false
    other v h false e = refl
    other v h true e =
        let same : one.word v ≡ none = word-same (one.word v) none e in
        let clash : Some v ≡ None = sym (is.back v h) ∙ ap one.value same ∙ apart in
        absurd (cc)

    back : (o : Option V) → IfGiven In o → (or_word none one).value ((or_word none one).word o) ≡ Some o
    back None h = rw (same_word-refl none) refl
    back (Some v) h = rw (other v h (same_word (one.word v) none) refl, is.back v h) refl

    forth : (w : List ℕ) (o : Option V)
        → (or_word none one).value w ≡ Some o → ((or_word none one).word o ≡ w) × IfGiven In o × (is_word w ≡ true)
    forth w o h = chosen (same_word w none) (Some None) (option_map (λ (v : V). Some v) (one.value w)) o (λ same k.
        let e : None ≡ o = cc in
        let said = word-same w none same in
        rw (← e) (sym said, tt, ap is_word said ∙ good)) (λ _ k. let m =
        mapped (λ (v : V). Some v) (one.value w) o k in let f = is.forth w m.value m.read in rw (← m.made) f) h

-- the byte stands in no word of this kind
abbrev pub IsFree : {V : Type 0} → (V → Type 0) → ℕ → Single V → Type 0
IsFree {V} In at one = (v : V) → In v → list_all (λ b. not (b == at)) (one.word v) ≡ true

pub joined-is : {A B : Type 0} (P : A → Type 0) (Q : B → Type 0) (at : ℕ) (one : Single A) (other : Single B)
    → is_plain at ≡ true → IsSingle P one → IsSingle Q other → IsFree P at one
    → IsSingle (Both P Q) (joined at one other)
joined-is {A} {B} P Q at one other good is also free =
    record { back = λ v h. back v.0 v.1 h; forth = λ w v h. forth w v h }
  where
    back : (a : A) (b : B) → P a × Q b → (joined at one other).value ((joined at one other).word (a, b)) ≡ Some (a, b)
    back a b h =
        let p = parts-IsCut at ((one.word a ++ at ∷ []) ++ other.word b) (one.word a) (other.word b)
        (record { whole = append_assoc (one.word a) (at ∷ []) (other.word b); first = free a h.0 }) in
        rw (p.stands, p.before_is, p.after_is, is.back a h.0, also.back b h.1) refl

    forth : (w : List ℕ) (v : A × B) → (joined at one other).value w ≡ Some v
        → ((joined at one other).word v ≡ w) × Both P Q v × (is_word w ≡ true)
    forth w v h = chosen (stands_in at w) (one.value (before_first (λ b. b == at) w) >>= (λ (a : A). option_map
        (λ (b : B). (let p : A × B = (a, b) in p)) (other.value (after_first (λ b. b == at) w))))
        None v (λ stands read.
        let cut = IsCut-stands at w stands in
        let b = bound (λ (a : A). option_map (λ (b : B). (let p : A × B = (a, b) in p))
        (other.value (after_first (λ b. b == at) w))) (one.value (before_first (λ b. b == at) w)) v read in
        let m = mapped (λ (x : B). (let p : A × B = (b.value, x) in p))
        (other.value (after_first (λ b. b == at) w)) v b.then_ in
        let f = is.forth (before_first (λ b. b == at) w) b.value b.read in
        let g = also.forth (after_first (λ b. b == at) w) m.value m.read in
        let words : (one.word b.value ++ at ∷ []) ++ other.word m.value ≡ w =
        append_assoc (one.word b.value) (at ∷ []) (other.word m.value) ∙ (rw (f.0, g.0) (sym cut.whole)) in
        let all = joined-word (one.word b.value) (other.word m.value) at
        (ap is_word f.0 ∙ f.2) good (ap is_word g.0 ∙ g.2) in
        rw (← m.made) (words, (f.1, g.1), ap is_word (sym words) ∙ all)) (λ _ none. not_some v none) h

pub as_one-is : {A B : Type 0} (In : A → Type 0) (to : B → A) (make : A → B) (one : Single A) → IsSingle In one
    → ((a : A) → to (make a) ≡ a) → ((b : B) → make (to b) ≡ b) → IsSingle (λ b. In (to b)) (as_one to make one)
as_one-is {A} {B} In to make one is there again = record {
  back = λ b h. rw (is.back (to b) h) (ap Some (again b));
  forth = λ w b h.
      let m = mapped make (one.value w) b h in
      let f = is.forth w m.value m.read in
      let same : to b ≡ m.value = ap to (sym m.made) ∙ there m.value in
      rw same f;
}

-- ---- bytes that stand in no number and no text

free_digit : (at b : ℕ) → 57 < at → is_ascii_digit b ≡ true → not (b == at) ≡ true
free_digit at b low h = grind (arith, nat_tests)

digits_all : (word : List ℕ) → is_numeral word ≡ true → list_all is_ascii_digit word ≡ true
digits_all [] h = refl
digits_all (b ∷ []) h = and_from (is_ascii_digit b) true h refl
digits_all (b ∷ c ∷ bs) h = (and_parts (not (b == 48)) (list_all is_ascii_digit (b ∷ c ∷ bs)) h).1

pub number-free : (high at : ℕ) → high < 2 ^ 64 → 57 < at → IsFree (IsNumber high) at (number high)
number-free high at small low n h = all-weaker is_ascii_digit (λ b. not (b == at))
    (λ b. free_digit at b low) (decimal n) (digits_all (decimal n) (numeral-decimal n (omega arith)))

pub name-free : (at : ℕ) → ((b : ℕ) → term_byte b ≡ true → not (b == at) ≡ true) → IsFree IsAName at a_name
name-free at other name h = all-weaker term_byte (λ b. not (b == at)) other (name_word name) h.0.characters

pub either-free : (first second : List ℕ) (at : ℕ) → list_all (λ b. not (b == at)) first ≡ true
    → list_all (λ b. not (b == at)) second ≡ true → IsFree (λ (b : Bool). Unit {0}) at (either first second)
either-free first second at f s true h = f
either-free first second at f s false h = s

-- a word with a byte between free parts
pub joined-free : {A B : Type 0} (P : A → Type 0) (Q : B → Type 0) (at byte : ℕ) (one : Single A) (other : Single B)
    → not (byte == at) ≡ true → IsFree P at one → IsFree Q at other → IsFree (Both P Q) at (joined byte one other)
joined-free P Q at byte one other apart f g v h =
    all-append (λ b. not (b == at)) (one.word v.0 ++ byte ∷ []) (other.word v.1) (all-append (λ b. not (b == at))
    (one.word v.0) (byte ∷ []) (f v.0 h.0) (and_from (not (byte == at)) true apart refl)) (g v.1 h.1)

spelled-forth : {V : Type 0} (word : V → List ℕ) (all : List V) (w : List ℕ) (v : V) → list_all
    (λ x. is_word (word x)) all ≡ true → spelled_of word all w ≡ Some v → (word v ≡ w) × Unit {0} × (is_word w ≡ true)
spelled-forth word [] w v good h = absurd (cc)
spelled-forth word (x ∷ all) w v good h =
    let parts = and_parts (is_word (word x)) (list_all (λ y. is_word (word y)) all) good in
    chosen (same_word w (word x)) (Some x) (spelled_of word all w) v (λ same k.
    let e : x ≡ v = cc in
    let said = word-same w (word x) same in
    rw (← e) (sym said, tt, ap is_word said ∙ parts.0)) (λ _ k. spelled-forth word all w v parts.1 k) h

pub spelled-is : {V : Type 0} (word : V → List ℕ) (all : List V) → list_all (λ x. is_word (word x)) all ≡ true
    → ((v : V) → spelled_of word all (word v) ≡ Some v) → IsSingle (λ (v : V). Unit {0}) (spelled word all)
spelled-is word all good back = record {
  back = λ v h. back v;
  forth = λ w v h. spelled-forth word all w v good h;
}
