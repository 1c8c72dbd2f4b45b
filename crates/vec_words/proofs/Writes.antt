-- The steps that change a word keep the rule.
use Rattle.vec_words.proofs.Imports.{◌≡◌, ◌*◌, ◌^◌, ◌<◌, ◌≤◌, ℕ, suc, true, List, [], ◌∷◌, ◌++◌, set, refl, sym, ap, ◌∙◌, subst, ⊎_elim, arith, length-set, get_or-set_other, get_or-set_same, All, cases_eq, All-weaker, Me, keeps, Allows, IsOpen, word_of, Logged, Stored, Committed, View, Shape, words_of, count_of, flying_of, IsOrderly, stored_to, committed_of, Becomes, Settled, IsKept, Roll, Fits, AreLeft, Kept}
use Rattle.vec_words.proofs.Logs.{count-push, left-push, left-here, left-other}
use Rattle.vec_words.proofs.Commits.{calls-store, calls-here, calls-other}
use Rattle.vec_words.proofs.Sound.{CanStore, settled-count, settled-store_now, settled-commit_now, sound-store, sound-commit}
use Rattle.vec_words.proofs.Kept.{kept-store, kept-commit, all_set}

module _ {D : Type 0} where
  left-store : (shape : Shape) (log : List (Logged D)) (words : List ℕ) (word bits stamp : ℕ)
      → word < shape.conns * words_of shape.len → AreLeft shape log words
      → AreLeft shape (log ++ Stored word bits stamp ∷ []) (set words (suc word) (word_of bits stamp))
  left-store shape log words word bits stamp within left = grind (
    arith,
    get_or-set_other,
    count-push,
    length-set,
    ⊎_elim,
    get_or-set_same,
    left-here,
    left-other,
    cases_eq,
  )

  left-commit : (shape : Shape) (log : List (Logged D)) (words : List ℕ) (number by : ℕ) (about : D)
      → AreLeft shape log words → AreLeft shape (log ++ Committed number by about ∷ []) (set words 0 number)
  left-commit shape log words number by about left =
      grind (arith, get_or-set_same, count-push, length-set, get_or-set_other, left-push)

  -- the views, after a store of the seat that holds the log
  fits-store : (len : ℕ) (roll : Roll D) (word bits stamp : ℕ) (j : ℕ) (u : View D) (log : List (Logged D))
      → (u.keeps ≡ true → (j ≡ roll.holder) × (log ≡ roll.log ++ Stored word bits stamp ∷ []))
      → IsOrderly roll.log (flying_of roll.log) → CanStore roll.log word bits stamp → Fits len roll j u
      → Fits len (record roll { log = roll.log ++ Stored word bits stamp ∷ [] }) j (record u { log = log })
  fits-store len roll word bits stamp j u log h sound can f =
      let later = roll.log ++ Stored word bits stamp ∷ [] in
      record {
        keeps = h;
        makes = f.makes;
        passes = λ p. let t = f.passes p in (t.0, t.1, t.2 ∙ sym (calls-store u.owner roll.log word bits stamp));
        known = settled-store_now roll.log word bits stamp u.known can.fresh f.known;
        sure = subst (λ c. u.sure ≤ c) (sym (count-push roll.log (Stored word bits stamp))) f.sure;
        tests = All-weaker (IsKept roll.log len u.owner) (IsKept later len u.owner)
            (λ t k. kept-store roll.log word bits stamp len u.owner t sound can k) u.tests f.tests;
      }

  -- the seat that holds the log stores a vector word
  pub puts : (shape : Shape) (slots id : ℕ) (me : Me ℕ (View D)) (i n word bits stamp : ℕ) → i ≡ suc word
      → n ≡ word_of bits stamp
      → me.0.keeps ≡ true → word < shape.conns * words_of shape.len → CanStore me.0.log word bits stamp
      → Allows (Kept shape) slots id me i (λ _. n) (λ _ after. Becomes me (stored_to word bits stamp me.0) after)
  puts shape slots id me i n word bits stamp i_is n_is has_log within can s kept width at small =
      let v = me.0 in
      let old = kept.roll in
      let mine = kept.fit id v at in
      let held = mine.keeps has_log in
      let can' = subst (λ l. CanStore l word bits stamp) held.1 can in
      let log = old.log ++ Stored word bits stamp ∷ [] in
      let roll : Roll D = record old { log = log } in (
        stored_to word bits stamp v,
        keeps,
        tt,
        (record {
          roll = roll;
          sound = sound-store old.log word bits stamp kept.sound can';
          left = subst (λ (x : ℕ × ℕ). AreLeft shape log (set s.words x.0 x.1)) (λ k. (sym i_is k, sym n_is k))
              (left-store shape old.log s.words word bits stamp within kept.left);
          fit = all_set shape.len roll s.views id (stored_to word bits stamp v)
              (λ j u apart e. let f = kept.fit j u e in
              fits-store shape.len old word bits stamp j u u.log (λ k. absurd (apart ((f.keeps k).0 ∙ sym held.0)))
              kept.sound can' f) (fits-store shape.len old word bits stamp id v (v.log ++ Stored word bits stamp ∷ [])
              (λ _. (held.0, ap (λ l. l ++ Stored word bits stamp ∷ []) held.1)) kept.sound can' mine);
        }),
        (refl, refl),
      )

  -- the number is the one in flight, for the seat that holds the log
  pub publishes : (shape : Shape) (slots id : ℕ) (me : Me ℕ (View D)) (number : ℕ) (about : List D) (x : D)
      → about ≡ x ∷ [] → me.0.keeps ≡ true
      → me.0.passes ≡ true → number < 2 ^ 32 → IsOpen (count_of me.0.log) (flying_of me.0.log) number
      → Allows (Kept shape) slots id me 0 (λ _. number) (λ _ after. Becomes me (committed_of number about me.0) after)
  publishes shape slots id me number about x one has_log is_pass fits fresh =
      subst (λ a. Allows (Kept shape) slots id me
      0 (λ _. number) (λ _ after. Becomes me (committed_of number a me.0) after)) (sym one) (λ s kept width at small.
      let v = me.0 in
      let old = kept.roll in
      let mine = kept.fit id v at in
      let held = mine.keeps has_log in
      let passed = mine.passes is_pass in
      let fresh' = subst (λ l. IsOpen (count_of l) (flying_of l) number) held.1 fresh in
      let higher : count_of old.log < number = fresh'.0 in
      let log = old.log ++ Committed number v.owner x ∷ [] in
      let count : count_of log ≡ number = count-push old.log (Committed number v.owner x) in
      let roll : Roll D = record old { log = log } in
      let sound = sound-commit old.log number v.owner x fits fresh' kept.sound in
      let tests : (u : View D) (j : ℕ) → Fits shape.len old j u → All (IsKept log shape.len u.owner) u.tests
      = λ u j f. All-weaker (IsKept old.log shape.len u.owner) (IsKept log shape.len u.owner)
      (λ t k. kept-commit old.log number v.owner x shape.len u.owner t fresh' k) u.tests f.tests in (
        committed_of number (x ∷ []) v,
        keeps,
        tt,
        (record {
          roll = roll;
          sound = sound;
          left = left-commit shape old.log s.words number v.owner x kept.left;
          fit = all_set shape.len roll s.views id (committed_of number (x ∷ []) v)
              (λ j u apart e. let f = kept.fit j u e in let seen : u.sure ≤ count_of old.log = f.sure in record {
                keeps = λ k. absurd (apart ((f.keeps k).0 ∙ sym held.0));
                makes = f.makes;
                passes = grind (arith, calls-other);
                known = settled-commit_now old.log number v.owner x u.known fresh' f.known;
                sure = omega (arith, count, seen, higher);
                tests = tests u j f;
              }) (record {
                keeps = λ _. (held.0, ap (λ l. l ++ Committed number v.owner x ∷ []) held.1);
                makes = mine.makes;
                passes = grind (arith, calls-here);
                known = subst (Settled log) count (settled-count log sound);
                sure = omega (arith, count);
                tests = tests v id mine;
              });
        }),
        (refl, refl),
      ))
