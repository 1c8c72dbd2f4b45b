-- Items are read back from their lines.
use Rattle.std.proofs.Common.{◌≡◌, ℕ, ◌<◌, ◌≤◌, ◌^◌, Bool, true, false, IsTrue, nat_lt, cond, List, [], ◌∷◌, length, get_or, position, codes, Some, None, refl, sym, ap, ◌∙◌, arith, lit<}
use Rattle.std.specs.List.{list_all, position_or_len}
use Rattle.std.proofs.lemmas.Bool.{and_from}
use Rattle.std.proofs.lemmas.Bool.Decides.{nat_tests}
use Rattle.std.proofs.lemmas.Option.{slice_get-get_or}
use Rattle.std.proofs.lemmas.List.Sums.{passes_at_first}
use Rattle.cf_types.specs.declared.forms.Kind.{Kind}
use Rattle.cf_types.specs.declared.forms.Kind.TheVariants as kind
use Rattle.cf_types.specs.declared.forms.StrForm.{StrForm}
use Rattle.cf_types.specs.declared.numbers.StrNo.{StrNo}
use Rattle.plex_spell.specs.Words.{same_word, line_of}
use Rattle.plex_spell.specs.Tokens.{name_word, structure_of}
use Rattle.plex_spell.specs.Places.{on_first}
use Rattle.plex_spell.proofs.Choices.{mapped, bound, word-same}
use Rattle.plex_plain.specs.Naming.{structure_name}
use Rattle.plex_plain.proofs.Places.{HaveNames, name-place}
use Rattle.plex_plain.proofs.Texts.{clear, line-clear}
use Rattle.plex_script.specs.declared.scripts.Script.{Script}
use Rattle.plex_script.specs.declared.transcripts.Shown.{Shown}
use Rattle.plex_script.specs.declared.transcripts.Shown.TheVariants.{Call, Test, Word, BadIndex, Posted, Took}
use Rattle.plex_script.specs.Causes.{kind_of}
use Rattle.plex_script.specs.Limits.{KeepsLimits}
use Rattle.plex_script.specs.LineWords.{has_vectors}
use Rattle.plex_script.proofs.PolicyPrinted.{structures-named}
use Rattle.plex_report.specs.Lines.{bit_word, shown_line}
use Rattle.line_rows.specs.Rows.{is_word, IsSingle, IsRow, done, form, first_of, AreForth, Both}
use Rattle.line_rows.proofs.Words.{name-word, are-good}
use Rattle.line_rows.proofs.RowLaws.{◌or◌, done-is, led-is, and_then-is, first-forth, form-forth}
use Rattle.line_rows.proofs.SingleLaws.{either-is}
use Rattle.reply_rows.specs.Parts.{small}
use Rattle.reply_rows.specs.Within.{IsSmall}
use Rattle.reply_rows.proofs.PartLaws.{small-is, count-is, Nil}
use Rattle.report_lines.specs.Items.{a_structure, bit_of, a_bit, bits, number_row, test_row, word_row, bad_row, behind_words, behind_forms, place_of, shown_row, IsShown, IsShownAt}
use Rattle.report_lines.specs.Readable.{HasBits, IsItem}
use Rattle.report_lines.specs.Spaced.{line_value}
use Rattle.report_lines.proofs.BitLaws.{bits-is}
use Rattle.report_lines.proofs.SpacedLaws.{line-sound, line-complete}

-- ---- words

abbrev IsOf : Kind → Bool → Type 0
IsOf k bit = IsTrue (has_vectors k)

bit-is : (k : Kind) → IsSingle (IsOf k) (a_bit k)
bit-is k = record { back = back k; forth = forth k }
  where
    back : (k : Kind) (bit : Bool) → IsOf k bit → bit_of k (bit_word k bit) ≡ Some bit
    back kind.Cache true h = refl
    back kind.Cache false h = refl
    back (kind.List headers locks refs) true h = refl
    back (kind.List headers locks refs) false h = refl
    back kind.Lock bit h = absurd (cc)

    forth : (k : Kind) (w : List ℕ) (bit : Bool) → bit_of k w ≡ Some bit
        → (bit_word k bit ≡ w) × IsOf k bit × (is_word w ≡ true)
    forth kind.Cache w true h =
        let f = (either-is (codes "VALID") (codes "INVALID") refl refl refl).forth w true h in (f.0, refl, f.2)
    forth kind.Cache w false h =
        let f = (either-is (codes "VALID") (codes "INVALID") refl refl refl).forth w false h in (f.0, refl, f.2)
    forth (kind.List headers locks refs) w true h =
        let f = (either-is (codes "NOTEMPTY") (codes "EMPTY") refl refl refl).forth w true h in (f.0, refl, f.2)
    forth (kind.List headers locks refs) w false h =
        let f = (either-is (codes "NOTEMPTY") (codes "EMPTY") refl refl refl).forth w false h in (f.0, refl, f.2)
    forth kind.Lock w bit h = absurd (cc)

module _ (structures : List StrForm) (names : HaveNames (λ (form : StrForm). form.name) structures) where
  abbrev IsKnown : StrNo → Type 0
  IsKnown on = on.0 < length structures

  pub known-name : (n : ℕ) (d : StrForm) → n < length structures
      → structure_name structures n ≡ name_word (get_or structures n d).name
  known-name n d low = rw (slice_get-get_or structures n d low) refl

  place_is : (p : StrForm → Bool) (xs : List StrForm) (i : ℕ) → position p xs ≡ Some i
      → (i ≡ position_or_len p xs) × (i < length xs)
  place_is p xs i e = at_test (nat_lt (position_or_len p xs) (length xs)) refl e
    where
      at_test : (b : Bool) → nat_lt (position_or_len p xs) (length xs) ≡ b
          → cond b (Some (position_or_len p xs)) None ≡ Some i → (i ≡ position_or_len p xs) × (i < length xs)
      at_test true low k =
          let same : position_or_len p xs ≡ i = cc in
          let within : position_or_len p xs < length xs = grind (arith, nat_tests) in
          (sym same, omega (arith, same, within))
      at_test false low k = absurd (cc)

  pub first_form : (xs : List StrForm) (n : ℕ) → n < length xs → StrForm
  first_form [] n low = absurd (omega arith)
  first_form (form ∷ xs) n low = form

  pub structure-said : (n : ℕ) → n < length structures → is_word (structure_name structures n) ≡ true
  structure-said n low =
      let d = first_form structures n low in
      ap is_word (known-name n d low) ∙ name-word (get_or structures n d).name (names.named n d low).0

  structure-is : IsSingle IsKnown (a_structure structures)
  structure-is = record { back = back; forth = forth }
    where
      back : (on : StrNo) → IsKnown on → structure_of structures (structure_name structures on.0) ≡ Some on
      back on low =
          let d = first_form structures on.0 low in
          let place : position (λ (form : StrForm). same_word (name_word form.name)
          (name_word (get_or structures on.0 d).name)) structures ≡ Some on.0 =
          name-place (λ (form : StrForm). form.name) structures on.0 d names low in
          ap (structure_of structures) (known-name on.0 d low) ∙ (rw place refl)

      forth : (w : List ℕ) (on : StrNo) → structure_of structures w ≡ Some on
          → (structure_name structures on.0 ≡ w) × IsKnown on × (is_word w ≡ true)
      forth w on h =
          let p : StrForm → Bool = λ form. same_word (name_word form.name) w in
          let m = mapped (λ (place : ℕ). (let n : StrNo = record { 0 = place } in n)) (position p structures) on h in
          let at : m.value ≡ on.0 = ap (λ (n : StrNo). n.0) m.made in
          let first = place_is p structures m.value m.read in
          let low : on.0 < length structures = omega (arith, at, first.1) in
          let d = first_form structures on.0 low in
          let here : position_or_len p structures ≡ on.0 = omega (arith, at, first.0) in
          let passes = passes_at_first p structures d (omega (arith, here, low)) in
          let same : name_word (get_or structures (position_or_len p structures) d).name ≡ w = word-same
          (name_word (get_or structures (position_or_len p structures) d).name) w passes in
          let said : structure_name structures on.0 ≡ w = known-name on.0 d low
          ∙ ap (λ (n : ℕ). name_word (get_or structures n d).name) (sym here) ∙ same in
          (said, low, ap is_word (sym said) ∙ structure-said on.0 low)

  -- ---- rows

  number-is : IsRow (Both IsSmall Nil) number_row
  number-is = and_then-is IsSmall Nil small done small-is done-is

  test-is : (k : Kind) → IsRow (Both IsSmall (Both (IsOf k) (Both IsSmall Nil))) (test_row k)
  test-is k = led-is _ (codes "TEST") refl _ (and_then-is IsSmall _ small _ small-is
      (and_then-is (IsOf k) _ (a_bit k) _ (bit-is k) number-is))

  abbrev IsHalf : ℕ → Type 0
  IsHalf n = n < 2 ^ 32

  word-is : IsRow (Both IsSmall (Both IsHalf (Both IsSmall Nil))) word_row
  word-is = led-is _ (codes "TESTWORD") refl _ (and_then-is IsSmall _ small _ small-is
      (and_then-is IsHalf _ (bits 32) _ (bits-is 32 (lit< tt)) number-is))

  bad-is : (word : List ℕ) → is_word word ≡ true → IsRow (Both IsSmall (Both IsSmall Nil)) (bad_row word)
  bad-is word good = led-is _ word good _ (and_then-is IsSmall _ small _ small-is
      (led-is _ (codes "BADINDEX") refl _ number-is))

  -- ---- an item

  abbrev IsAt : Kind → StrNo → Shown → Type 0
  IsAt k on shown = (place_of shown ≡ on) × IsShown k shown

  behind-forth : (k : Kind) (on : StrNo) → AreForth (IsAt k on) (behind_words k) (behind_forms k on)
  behind-forth k on =
      form-forth _ _ _ _ (λ v. Call on v.0) number-is (λ v h. (refl, (refl, h)))
      or form-forth _ _ _ _ (λ v. Test on v.0 v.1.0 v.1.1.0) (test-is k) (λ v h. (refl, (refl, h)))
      or form-forth _ _ _ _ (λ v. Word on v.0 v.1.0 v.1.1.0) word-is (λ v h. (refl, (refl, h)))
      or form-forth _ _ _ _ (λ v. BadIndex on v.0 false v.1.0) (bad-is (codes "TEST") refl) (λ v h. (refl, (refl, h)))
      or form-forth _ _ _ _ (λ v. BadIndex on v.0 true v.1.0) (bad-is (codes "TESTWORD") refl)
      (λ v h. (refl, (refl, h)))
      or form-forth _ _ _ _ (λ v. Posted on v.0) (count-is (codes "POST") refl) (λ v h. (refl, (refl, h)))
      or form-forth _ _ _ _ (λ v. Took on v.0) (count-is (codes "TAKE") refl) (λ v h. (refl, (refl, h)))
      or tt

  behind-back : (k : Kind) (shown : Shown) → IsShown k shown
      → first_of (behind_forms k (place_of shown)) (behind_words k shown) ≡ Some shown
  behind-back k (Call on number) h = rw (number-is.back (number, tt) h) refl
  behind-back k (Test on index bit at) h = rw ((test-is k).back (index, (bit, (at, tt))) h) refl
  behind-back k (Word on word bits at) h = rw (word-is.back (word, (bits, (at, tt))) h) refl
  behind-back kind.Cache (BadIndex on index false len) h = rw (small-is.back index h.0, small-is.back len h.1.0) refl
  behind-back (kind.List headers locks refs) (BadIndex on index false len) h =
      rw (small-is.back index h.0, small-is.back len h.1.0) refl
  behind-back kind.Lock (BadIndex on index false len) h = rw (small-is.back index h.0, small-is.back len h.1.0) refl
  behind-back k (BadIndex on index true len) h = rw (small-is.back index h.0, small-is.back len h.1.0) refl
  behind-back k (Posted on sure) h = rw (small-is.back sure h.0) refl
  behind-back k (Took on sure) h = rw (small-is.back sure h.0) refl

  pub shown-is : IsRow (IsShownAt structures) (shown_row structures)
  shown-is = record { back = back; forth = forth }
    where
      back : (shown : Shown) → IsShownAt structures shown
          → (shown_row structures).values ((shown_row structures).words shown) ≡ Some shown
      back shown h = rw (structure-is.back (place_of shown) h.0)
          (behind-back (kind_of structures (place_of shown)) shown h.1)

      forth : (ws : List (List ℕ)) (shown : Shown) → (shown_row structures).values ws ≡ Some shown
          → ((shown_row structures).words shown ≡ ws) × IsShownAt structures shown × (list_all is_word ws ≡ true)
      forth [] shown h = absurd (cc)
      forth (w ∷ ws) shown h =
          let b = bound (λ (read : StrNo × List (List ℕ)).
          first_of (behind_forms (kind_of structures read.0) read.0) read.1)
          (on_first (structure_of structures) (w ∷ ws)) shown h in
          let m = mapped (λ (on : StrNo). (on, ws)) (structure_of structures w) b.value b.read in
          let same : m.value ≡ b.value.0 = ap (λ (p : StrNo × List (List ℕ)). p.0) m.made in
          let behind : ws ≡ b.value.1 = ap (λ (p : StrNo × List (List ℕ)). p.1) m.made in
          let k = kind_of structures b.value.0 in
          let f = first-forth (IsAt k b.value.0) (behind_words k) (behind_forms k b.value.0)
          (behind-forth k b.value.0) b.value.1 shown b.then_ in
          let first = structure-is.forth w m.value m.read in
          let place : place_of shown ≡ m.value = f.1.0 ∙ sym same in
          let named : structure_name structures (place_of shown).0 ≡ w =
          ap (λ (on : StrNo). structure_name structures on.0) place ∙ first.0 in
          let kinds : kind_of structures (place_of shown) ≡ k = ap (kind_of structures) f.1.0 in
          let more : behind_words (kind_of structures (place_of shown)) shown ≡ ws =
          ap (λ (j : Kind). behind_words j shown) kinds ∙ f.0 ∙ sym behind in
          let words = and_from (is_word w) (list_all is_word ws) first.2 (ap (list_all is_word) behind ∙ f.2) in
          (cc, (rw place first.1, rw kinds f.1.1), words)

-- ---- lines

line-words : (script : Script) (shown : Shown)
    → line_of ((shown_row script.structures).words shown) ≡ shown_line script shown
line-words script (Call on number) = refl
line-words script (Test on index bit at) = refl
line-words script (Word on word bits at) = refl
line-words script (BadIndex on index true len) = refl
line-words script (BadIndex on index false len) = refl
line-words script (Posted on sure) = refl
line-words script (Took on sure) = refl

-- ---- the values of an item

bits_of_kind : (k : Kind) → HasBits k → IsTrue (has_vectors k)
bits_of_kind kind.Cache h = refl
bits_of_kind (kind.List headers locks refs) h = refl
bits_of_kind kind.Lock h = absurd h

kind_of_bits : (k : Kind) → IsTrue (has_vectors k) → HasBits k
kind_of_bits kind.Cache h = tt
kind_of_bits (kind.List headers locks refs) h = tt
kind_of_bits kind.Lock h = absurd (cc)

low : (n : ℕ) → n < 2 ^ 32 → n ≤ 4294967295
low n h = omega (arith, h)

small_of : (n : ℕ) → n ≤ 4294967295 → n < 2 ^ 32
small_of n h = omega (arith, h)

item-in : (script : Script) (shown : Shown) → IsItem script shown → IsShownAt script.structures shown
item-in script (Call on number) h = (h.0, (low number h.1, tt))
item-in script (Test on index bit at) h =
    (h.0, (low index h.2, (bits_of_kind (kind_of script.structures on) h.1, (low at h.3, tt))))
item-in script (Word on word bits at) h = (h.0, (low word h.1, (h.2, (low at h.3, tt))))
item-in script (BadIndex on index word len) h = (h.0, (low index h.1, (low len h.2, tt)))
item-in script (Posted on sure) h = (h.0, (low sure h.1, tt))
item-in script (Took on sure) h = (h.0, (low sure h.1, tt))

item-out : (script : Script) (shown : Shown) → IsShownAt script.structures shown → IsItem script shown
item-out script (Call on number) h = (h.0, small_of number h.1.0)
item-out script (Test on index bit at) h =
    (h.0, kind_of_bits (kind_of script.structures on) h.1.1.0, small_of index h.1.0, small_of at h.1.1.1.0)
item-out script (Word on word bits at) h = (h.0, small_of word h.1.0, h.1.1.0, small_of at h.1.1.1.0)
item-out script (BadIndex on index word len) h = (h.0, small_of index h.1.0, small_of len h.1.1.0)
item-out script (Posted on sure) h = (h.0, small_of sure h.1.0)
item-out script (Took on sure) h = (h.0, small_of sure h.1.0)

module _ (script : Script) (keeps : KeepsLimits script) where
  rows : IsRow (IsShownAt script.structures) (shown_row script.structures)
  rows = shown-is script.structures (structures-named script.structures keeps.structure_names)

  pub item_found : (line : List ℕ) (shown : Shown) → line_value (shown_row script.structures) line ≡ Some shown
      → (shown_line script shown ≡ line) × IsItem script shown
  item_found line shown h =
      let f = line-sound (IsShownAt script.structures) (shown_row script.structures) line shown rows h in
      (sym (line-words script shown) ∙ f.0, item-out script shown f.1)

  pub item_none : (line : List ℕ) (shown : Shown) → line_value (shown_row script.structures) line ≡ None
      → IsItem script shown → shown_line script shown ≡ line → ⊥
  item_none line shown none h e =
      let some = line-complete (IsShownAt script.structures) (shown_row script.structures) line shown rows
      (item-in script shown h) (line-words script shown ∙ e) in
      absurd (cc)

  -- a line is that of one item
  pub item_one : (one other : Shown) → IsItem script one → IsItem script other
      → shown_line script one ≡ shown_line script other → one ≡ other
  item_one one other h k e =
      let a = line-complete (IsShownAt script.structures) (shown_row script.structures) (shown_line script one) one rows
      (item-in script one h) (line-words script one) in
      let b = line-complete (IsShownAt script.structures) (shown_row script.structures) (shown_line script one) other rows
      (item-in script other k) (line-words script other ∙ sym e) in
      let both : Some one ≡ Some other = sym a ∙ b in
      cc

  -- an item's line has no line feed
  pub item-clear : (shown : Shown) → IsItem script shown → list_all clear (shown_line script shown) ≡ true
  item-clear shown h =
      let row = shown_row script.structures in
      let words = (rows.forth (row.words shown) shown (rows.back shown (item-in script shown h))).2 in
      sym (ap (list_all clear) (line-words script shown)) ∙ line-clear (row.words shown) (are-good (row.words shown) words)
