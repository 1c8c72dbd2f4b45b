-- Each step that stores nothing keeps the rule.
use Rattle.vec_words.proofs.Imports.{◌≡◌, ◌≢◌, ◌==◌, ◌+◌, ◌*◌, ◌/◌, ◌^◌, ◌<◌, ◌≤◌, ℕ, zero, suc, Bool, true, false, true≢false, List, [], ◌∷◌, map, length, set, replicate, refl, sym, ap, ◌∙◌, subst, inl, ⊎_elim, arith, ne_eqb, All, max, slice_index, if◌then◌else◌, set-get_or, length-replicate, All-weaker, All-nil, All-append, All-map, some, some-injective, some-ne-none, get_elem?, Me, keeps, opening, Allows, Splits, Joins, at_set, set_again, bits_of, stamp_of, settled-max, Logged, View, Shape, words_of, word_number, steps_of, count_of, flying_of, left_in, calls_of, IsOrderly, sight, note_view, blank_view, first_view, made_one, next_pass, note_of, told_of, without_log, log_alone, with_log, tested_of, learned_of, Becomes, Settled, IsKept, Roll, Fits, AllFit, AreLeft, Kept, Shows}
use Rattle.vec_words.proofs.{Sound.orderly-nil, Sound.settled-count, Kept.kept-now, Kept.all_set, Kept.all_push}

off : false ≡ true → ⊥
off e = true≢false (sym e)

-- a list of zeros has 0 at each place
zeros_at : (n i : ℕ) → slice_index (replicate n 0) i ≡ 0
zeros_at zero i = refl
zeros_at (suc n) zero = refl
zeros_at (suc n) (suc i) = zeros_at n i

module _ {D : Type 0} where
  -- a view of which the rule asks nothing but the two numbers
  fits_note : (len : ℕ) (roll : Roll D) (seat conns width known sure : ℕ)
      → Settled roll.log known → sure ≤ count_of roll.log → Fits len roll seat (note_view conns width known sure)
  fits_note len roll seat conns width known sure settled seen = grind (arith, off, All-nil)

  fits_blank : (len : ℕ) (roll : Roll D) (seat : ℕ) → Fits len roll seat blank_view
  fits_blank len roll seat = fits_note len roll seat 0 0 0 0 (inl (omega arith, inl refl)) (omega arith)

  -- the table at its start
  pub starts : (shape : Shape) (words : List ℕ) → words ≡ replicate (suc (shape.conns * words_of shape.len)) 0
      → Kept {D = D} shape (opening words [] (first_view shape))
  starts shape words zeros =
      let size : ℕ = suc (shape.conns * words_of shape.len) in
      let roll : Roll D = record { log = []; holder = 0; maker = 0; next = 0; seat_of = λ _. 0 } in
      record {
        roll = roll;
        sound = orderly-nil;
        left = grind (arith, length-replicate, zeros_at);
        fit = one roll refl refl refl refl;
      }
    where
      one : (roll : Roll D) → roll.log ≡ [] → roll.holder ≡ 0 → roll.maker ≡ 0 → roll.next ≡ 0
          → AllFit shape.len roll (first_view shape ∷ [])
      one roll log holder maker next zero v e = grind (arith, some-injective, off, All-nil)
      one roll log holder maker next (suc j) v e = absurd (some-ne-none v (sym e))

  -- a note is made of a pass, or of a note
  pub splits_note : (shape : Shape) (id : ℕ) (v : View D) → Splits (Kept shape) id v v (note_of v)
  splits_note shape id v s kept at =
      let mine = kept.fit id v at in
      record {
        roll = kept.roll;
        sound = kept.sound;
        left = kept.left;
        fit = all_push shape.len kept.roll (set s.views id v)
            (note_of v) (subst (AllFit shape.len kept.roll) (sym (set_again s.views id v at)) kept.fit) (fits_note
            shape.len kept.roll (length (set s.views id v)) v.conns v.len v.known v.sure mine.known mine.sure);
      }

  away : (views : List (View D)) (id other : ℕ) (both w : View D) → ¬ (other ≡ id)
      → get_elem? (set views id both) other ≡ some w → get_elem? views other ≡ some w
  away views id other both w apart there = grind (arith, ⊎_elim, get_elem?, at_set)

  -- a view whose two numbers were raised
  raised : (len : ℕ) (roll : Roll D) (id : ℕ) (v : View D) (known sure : ℕ) → Fits len roll id v
      → Settled roll.log known
      → sure ≤ count_of roll.log → Fits len roll id (record v { known = max v.known known; sure = max v.sure sure })
  raised len roll id v known sure mine settled seen = grind (arith, settled-max)

  -- a note is told
  pub joins_note : (shape : Shape) (id : ℕ) (v : View D) (other : ℕ) (w : View D)
      → Joins (Kept shape) id v other w (told_of v w) blank_view
  joins_note shape id v other w s kept at apart there =
      let roll = kept.roll in
      let mine = kept.fit id v at in
      let theirs = kept.fit other w (away s.views id other (told_of v w) w apart there) in
      record {
        roll = roll;
        sound = kept.sound;
        left = kept.left;
        fit = all_set shape.len roll (set s.views id (told_of v w)) other blank_view (λ j u _ e. all_set shape.len
            roll s.views id (told_of v w) (λ i y _ e'. kept.fit i y e') (raised shape.len
            roll id v w.known w.sure mine theirs.known theirs.sure) j u e) (fits_blank shape.len roll other);
      }

  -- the engine's seat, whose log is empty yet, makes the next pass
  pub splits_pass : (shape : Shape) (id : ℕ) (v : View D) → v.makes ≡ true → v.keeps ≡ true → v.log ≡ []
      → Splits (Kept shape) id v (made_one v) (next_pass v)
  splits_pass shape id v makes has_log empty s kept at =
      let old = kept.roll in
      let mine = kept.fit id v at in
      let next_is : v.next ≡ old.next = (mine.makes makes).1 in
      let made : id ≡ old.maker = (mine.makes makes).0 in
      let views = set s.views id (made_one v) in
      let roll : Roll D = record old {
        next = old.next + 1;
        seat_of = λ o. if o == old.next then length views else old.seat_of o;
      } in
      let passes : (j : ℕ) (u : View D) → Fits shape.len old j u → u.passes ≡ true
      → (j ≡ roll.seat_of u.owner) × (u.owner < roll.next) × (u.mine ≡ calls_of u.owner roll.log)
      = λ j u f p. let t = f.passes p in let below : u.owner < old.next = t.1 in
      (t.0 ∙ sym (seat_before u.owner old.next (length views) (old.seat_of u.owner) below), omega arith, t.2) in
      record {
        roll = roll;
        sound = kept.sound;
        left = kept.left;
        fit = all_push shape.len roll views (next_pass v) (all_set shape.len roll s.views id (made_one v)
            (λ j u apart e. let f = kept.fit j u e in grind arith) (grind arith)) (grind (arith, off, All-nil));
      }
    where
      seat_before : (o next new seat : ℕ) → o < next → (if o == next then new else seat) ≡ seat
      seat_before o next new seat below = ap (λ b. if b then new else seat) (ne_eqb o next (λ e. omega arith))

  -- a view of the rule, where another seat may have the log
  handed : (len : ℕ) (roll : Roll D) (holder seat : ℕ) (u : View D) (keep : Bool) (log : List (Logged D))
      → (keep ≡ true → (seat ≡ holder) × (log ≡ roll.log)) → Fits len roll seat u
      → Fits len (record roll { holder = holder }) seat (record u { keeps = keep; log = log })
  handed len roll holder seat u keep log h f = grind arith

  -- the log leaves a seat
  pub splits_log : (shape : Shape) (id : ℕ) (v : View D) → v.keeps ≡ true
      → Splits (Kept shape) id v (without_log v) (log_alone v)
  splits_log shape id v has_log s kept at =
      let old = kept.roll in
      let mine = kept.fit id v at in
      let held = mine.keeps has_log in
      let views = set s.views id (without_log v) in
      let roll : Roll D = record old { holder = length views } in
      record {
        roll = roll;
        sound = kept.sound;
        left = kept.left;
        fit = all_push shape.len roll views (log_alone v) (all_set shape.len roll s.views
            id (without_log v) (λ j u apart e. let f = kept.fit j u e in grind (arith, handed)) (handed shape.len
            old (length views) id v false [] (λ k. absurd (off k)) mine)) (handed shape.len old (length views)
            (length views) blank_view true v.log (λ _. (refl, held.1)) (fits_blank shape.len old (length views)));
      }

  -- the log comes to a seat
  pub joins_log : (shape : Shape) (id : ℕ) (v : View D) (other : ℕ) (w : View D) → w.keeps ≡ true
      → Joins (Kept shape) id v other w (with_log v w) blank_view
  joins_log shape id v other w has_log s kept at apart there =
      let old = kept.roll in
      let mine = kept.fit id v at in
      let theirs = kept.fit other w (away s.views id other (with_log v w) w apart there) in
      let held = theirs.keeps has_log in
      let roll : Roll D = record old { holder = id } in
      let others : (j : ℕ) (u : View D) → j ≢ other → get_elem? (set s.views id (with_log v w)) j ≡ some u
      → Fits shape.len roll j u
      = λ j u off_other e. ⊎_elim (λ (t : (j ≡ id) × (with_log v w ≡ u)). subst (λ (y : ℕ × View D). Fits shape.len
      roll y.0 y.1) (λ i. (sym t.0 i, t.1 i)) (handed shape.len old id id v true w.log (λ _. (refl, held.1)) mine))
      (λ (t : (j ≢ id) × (get_elem? s.views j ≡ some u)). let f = kept.fit j u t.1 in
      handed shape.len old id j u u.keeps u.log (λ k. absurd (off_other ((f.keeps k).0 ∙ sym held.0))) f)
      (at_set s.views id j (with_log v w) u e) in
      record {
        roll = roll;
        sound = kept.sound;
        left = kept.left;
        fit = all_set shape.len roll (set s.views id (with_log v w)) other blank_view others
            (fits_blank shape.len roll other);
      }

  -- a pass loads a word of its vector
  pub looks : (shape : Shape) (slots id : ℕ) (me : Me ℕ (View D)) (asked : List ℕ) (i word place : ℕ) → i ≡ suc word
      → word < shape.conns * words_of shape.len → word ≡ word_number shape.len me.0.owner place → 0 < me.0.owner
      → place < words_of shape.len → me.0.sure ≤ me.0.known → All (λ k. k / 32 ≡ place) asked
      → Allows (Kept shape) slots id me i (λ n. n) (λ n after. Becomes me (tested_of asked me.0 n) after)
  looks shape slots id me asked i word place i_is within word_is positive below ordered here s kept width at small =
      let v = me.0 in
      let roll = kept.roll in
      let mine = kept.fit id v at in
      let n = slice_index s.words i in
      let found : n ≡ left_in roll.log word = ap (slice_index s.words) i_is ∙ kept.left.vectors word within in (
        tested_of asked v n,
        keeps,
        tt,
        (record {
          roll = roll;
          sound = kept.sound;
          left = subst (AreLeft shape roll.log) (sym (set-get_or s.words i 0)) kept.left;
          fit = all_set shape.len roll s.views id (tested_of asked v n) (λ j u _ e. kept.fit j u e) (subst (λ k. Fits
              shape.len roll id (tested_of asked v k)) (sym found) (tested_fits roll v kept.sound mine refl ordered));
        }),
        (refl, refl),
      )
    where
      tested_fits : (roll : Roll D) (v : View D) → IsOrderly roll.log (flying_of roll.log) → Fits shape.len roll id v
          → v.owner ≡ me.0.owner → v.sure ≤ v.known → Fits shape.len roll id
          (tested_of asked v (left_in roll.log word))
      tested_fits roll v sound mine owner ordered =
          let w = left_in roll.log word in
          let at : ℕ = max v.known (stamp_of w) in
          record {
            keeps = mine.keeps;
            makes = mine.makes;
            passes = mine.passes;
            known = settled-max (steps_of roll.log) (count_of roll.log) (flying_of roll.log) v.known
                (stamp_of w) mine.known (sound.stamps word);
            sure = mine.sure;
            tests = All-append (IsKept roll.log shape.len v.owner) v.tests (map (sight (bits_of w) at v.sure) asked)
                mine.tests (All-map (IsKept roll.log shape.len v.owner) (sight (bits_of w) at v.sure)
                asked (All-weaker (λ k. k / 32 ≡ place) (λ k. IsKept roll.log shape.len v.owner
                (sight (bits_of w) at v.sure k)) (λ k is. kept-now roll.log shape.len v.owner
                word v.known v.sure k sound mine.known ordered mine.sure (subst (λ o. 0 < o) (sym owner) positive)
                (subst (λ x. x < words_of shape.len) (sym is) below) (ap (word_number shape.len v.owner) is
                ∙ ap (λ o. word_number shape.len o place) owner ∙ sym word_is)) asked here));
          }

  -- a pass that holds the log loads the count
  pub learns : (shape : Shape) (slots id : ℕ) (me : Me ℕ (View D))
      → me.0.keeps ≡ true → me.0.passes ≡ true → me.0.len ≡ shape.len → Allows (Kept shape)
      slots id me 0 (λ n. n) (λ n after. Becomes me (learned_of me.0 n) after × Shows me.0.len me.0 n)
  learns shape slots id me has_log is_pass len_is s kept width at small =
      let v = me.0 in
      let roll = kept.roll in
      let mine = kept.fit id v at in
      let held = mine.keeps has_log in
      let n = slice_index s.words 0 in
      let found : n ≡ count_of roll.log = kept.left.count in
      let settled : Settled roll.log n = subst (Settled roll.log) (sym found) (settled-count roll.log kept.sound) in
      let seen : v.sure ≤ count_of roll.log = mine.sure in (
        learned_of v n,
        keeps,
        tt,
        (record {
          roll = roll;
          sound = kept.sound;
          left = subst (AreLeft shape roll.log) (sym (set-get_or s.words 0 0)) kept.left;
          fit = all_set shape.len roll s.views id (learned_of v n) (λ j u _ e. kept.fit j u e)
              (raised shape.len roll id v n n mine settled (omega (arith, found)));
        }),
        (
          (refl, refl),
          (record {
            count_is = found ∙ ap count_of (sym held.1);
            small = subst (λ k. k < 2 ^ 32) (sym found) kept.sound.small;
            sure = subst (λ k. v.sure ≤ k) (sym found) seen;
            known = subst (λ l. Settled l v.known) (sym held.1) mine.known;
            counted = subst (λ l. Settled l n) (sym held.1) settled;
            mine = (mine.passes is_pass).2 ∙ ap (calls_of v.owner) (sym held.1);
            tests = subst (λ (y : ℕ × List (Logged D)). All (IsKept y.1 y.0 v.owner) v.tests)
                (λ i. (sym len_is i, sym held.1 i)) mine.tests;
          }),
        ),
      )
