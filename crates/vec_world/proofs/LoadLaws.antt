-- The law of a load: what it tells stays told by every log that later steps make.
use Rattle.vec_world.proofs.Imports.{◌≡◌, ℕ, ◌+◌, ◌^◌, ◌<◌, ◌≤◌, List, [], ◌∷◌, ◌++◌, length, take, drop, get_or, Option, Some, None, sym, ap, ◌∙◌, subst, inl, arith, All, fold, cond_both, length_push, drop-append-le, take-append-drop, fold-append, fold_more, All-drop, All-take, Step, Store, Commit, Load, LoadCount, Split, Join, World, IsOpen, FitsHalf, bits_of, stamp_of, word_at, start, is_open, has_word, has_pass, can_store, with_store, with_commit, with_learned, with_note, with_note_told, act, world_of, Tells, TellsWord, EachLoadTells, known_at_load, logged_since}
use Rattle.vec_world.proofs.LogLaws.{Carries-at, StampsUpTo-weaker, settled-store, settled-commit, settled-max, settled-below, Tells-push_commit, Tells-push_store}
use Rattle.vec_world.proofs.WorldLaws.{Settled, IsSound, CanStore, can_store_from_test, open_from_test, stamp-above, settled-known, settled-stamp, sound-stored, sound-committed, sound-learned, sound-noted, sound-told, sound-act, sound-world_of, fold-act}

-- A world that later steps made of `before`, as a load of `word` at `before` sees it, which found these bits and then
-- knew this number.
pub record IsAfterLoad (before : World) (word bits number : ℕ) (after : World) : Type 0 where
  pub sound : IsSound after
  pub settled : Settled after number
  pub count : before.count ≤ after.count
  pub log : length before.log ≤ length after.log
  pub told : Tells after.log (logged_since before after) before.count word bits number

-- one more step in the log is one more since the load
logged_since-push : (before after : List Step) (step : Step) → length before ≤ length after
    → drop (length before) (after ++ step ∷ []) ≡ drop (length before) after ++ step ∷ []
logged_since-push before after step grown = drop-append-le (length before) after (step ∷ []) grown

after_load-stored : (before after : World) (word bits number at new stamp : ℕ) → new < 2 ^ 32
    → CanStore after at stamp
    → IsAfterLoad before word bits number after → IsAfterLoad before word bits number (with_store after at new stamp)
after_load-stored before after word bits number at new stamp fits can since =
    let step : Step = Store at new stamp in
    let above : stamp_of (word_at after at) < stamp = stamp-above after at stamp can since.sound in
    let fresh : after.count < stamp = can.fresh.0 in
    let grown : before.count ≤ after.count = since.count in
    let more = length_push after.log step in
    let longer : length before.log ≤ length after.log = since.log in
    record {
      sound = sound-stored after at new stamp fits can since.sound;
      settled = settled-store after.log after.count after.flying at new stamp number can.fresh since.settled;
      count = since.count;
      log = omega arith;
      told = subst (λ (later : List Step). Tells (after.log ++ step ∷ []) later before.count word bits number)
          (sym (logged_since-push before.log after.log step since.log)) (Tells-push_store after.log (logged_since
          before after) at new stamp before.count word bits number (omega arith) (settled-below after.log after.count
          after.flying stamp number can.fresh since.settled) (grind (arith, StampsUpTo-weaker)) since.told);
    }

after_load-committed : (before after : World) (word bits number done : ℕ) → IsOpen after.count after.flying done
    → IsAfterLoad before word bits number after → IsAfterLoad before word bits number (with_commit after done)
after_load-committed before after word bits number done fresh since =
    let above : after.count < done = fresh.0 in
    let grown : before.count ≤ after.count = since.count in
    let more = length_push after.log (Commit done) in
    let longer : length before.log ≤ length after.log = since.log in
    record {
      sound = sound-committed after done fresh since.sound;
      settled = settled-commit after.log after.count after.flying done number fresh since.settled;
      count = omega arith;
      log = omega arith;
      told = subst (λ (later : List Step). Tells (after.log ++ Commit done ∷ []) later before.count word bits number)
          (sym (logged_since-push before.log after.log (Commit done) since.log))
          (Tells-push_commit after.log (logged_since before after) done before.count word bits number since.told);
    }

-- a step that logs nothing changes nothing that was told
after_load-learned : (before after : World) (word bits number pass at : ℕ) → IsSound (with_learned after pass at)
    → IsAfterLoad before word bits number after → IsAfterLoad before word bits number (with_learned after pass at)
after_load-learned before after word bits number pass at = grind (arith, cond_both, IsSound)

after_load-told : (before after : World) (word bits number into : ℕ) (note : Option ℕ)
    → IsSound (with_note_told after into note)
    → IsAfterLoad before word bits number after → IsAfterLoad before word bits number (with_note_told after into note)
after_load-told before after word bits number into None sound since = since
after_load-told before after word bits number into (Some note) sound since = grind (arith, cond_both, IsSound)

after_load-act : (before : World) (word bits number : ℕ) (after : World) (step : Step) → FitsHalf step
    → IsAfterLoad before word bits number after → IsAfterLoad before word bits number (act after step)
after_load-act before word bits number after (Store at new stamp) fits since = cond_both (can_store after at stamp)
    (with_store after at new stamp) after (IsAfterLoad before word bits number) (λ test. after_load-stored before
    after word bits number at new stamp fits (can_store_from_test after at stamp test) since) (λ _. since)
after_load-act before word bits number after (Commit done) fits since = cond_both (is_open after done)
    (with_commit after done) after (IsAfterLoad before word bits number) (λ test. after_load-committed before
    after word bits number done (open_from_test after done test) since) (λ _. since)
after_load-act before word bits number after (Load pass at) fits since = cond_both (has_word after at) (with_learned
    after pass (stamp_of (word_at after at))) after (IsAfterLoad before word bits number) (λ _. after_load-learned _
    _ _ _ _ _ _ (sound-learned _ _ _ (settled-stamp after at since.sound.stamps) since.sound) since) (λ _. since)
after_load-act before word bits number after (LoadCount pass) fits since = after_load-learned
    before after word bits number pass after.count (sound-act after (LoadCount pass) fits since.sound) since
after_load-act before word bits number after (Split pass) fits since =
    cond_both (has_pass after pass) (with_note after pass) after (IsAfterLoad before word bits number) (λ _. record {
      sound = sound-noted after pass since.sound;
      settled = since.settled;
      count = since.count;
      log = since.log;
      told = since.told;
    }) (λ _. since)
after_load-act before word bits number after (Join into) fits since =
    grind (arith, cond_both, after_load-told, sound-told)

-- At the load itself.

after_load-now : (world : World) (pass word : ℕ) → IsSound world
    → IsAfterLoad world word (bits_of (word_at world word)) (known_at_load world pass word) world
after_load-now world pass word sound = record {
  sound = sound;
  settled = settled-max _ _ _ _ _ (settled-known world pass sound.known) (settled-stamp world word sound.stamps);
  count = omega arith;
  log = omega arith;
  told = inl (sym (Carries-at _ _ _ _ _ (omega arith) (sound.words word)));
}

-- the law of a load, from any sound world on
pub tells-fold : (before : World) (pass word : ℕ) (steps : List Step) → IsSound before → All FitsHalf steps
    → TellsWord before (fold act before steps) pass word
tells-fold before pass word steps sound fits =
    (fold-act _ (after_load-act _ _ _ _) _ _ fits (after_load-now _ _ _ sound)).told

-- a list of steps is run up to a place, and then on
world_of-split : (words passes place : ℕ) (steps : List Step)
    → fold act (world_of words passes (take place steps)) (drop place steps) ≡ world_of words passes steps
world_of-split words passes place steps = sym (fold-append act (start words passes)
    (take place steps) (drop place steps)) ∙ ap (world_of words passes) (take-append-drop place steps)

-- the law of loads, for every list of steps
pub each_load_tells : (words passes : ℕ) (steps : List Step) → All FitsHalf steps → EachLoadTells words passes steps
each_load_tells words passes steps fits place pass word there in_passes in_words =
    let before = world_of words passes (take place steps) in
    subst (λ after. TellsWord before after pass word) (world_of-split words passes place steps) (tells-fold
    _ _ _ _ (sound-world_of _ _ _ (All-take FitsHalf place steps fits)) (All-drop FitsHalf place steps fits))

-- one more step of the list
pub world_of-more : (words passes : ℕ) (steps : List Step) (i : ℕ) (d : Step) (world after : World) → i < length steps
    → world ≡ world_of words passes (take i steps) → after ≡ act world (get_or steps i d)
    → after ≡ world_of words passes (take (i + 1) steps)
world_of-more words passes steps i d world after within so_far acts = grind (arith, fold_more)
