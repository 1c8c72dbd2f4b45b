-- What the seats of the word table know, and how one step changes it.
use Rattle.std.specs.Prelude.{◌≡◌, ◌+◌, ◌++◌, ℕ, List, [], ◌∷◌, true, false, max, map}
use Rattle.atomic_table.specs.Table.{Me}
use Rattle.vec_world.specs.World.{bits_of, stamp_of}
use Rattle.vec_words.specs.declared.logged.Logged.TheVariants.{Stored, Committed}
use Rattle.vec_words.specs.declared.view.View.{View}
use Rattle.vec_words.specs.declared.view.Shape.{Shape}
use Rattle.vec_words.specs.Logged.{sight}

module _ {D : Type 0} where
  -- a seat that knows nothing but the numbers
  abbrev pub note_view : ℕ → ℕ → ℕ → ℕ → View D
  note_view conns len known sure =
      record {
        conns = conns;
        len = len;
        keeps = false;
        log = [];
        makes = false;
        next = 0;
        passes = false;
        owner = 0;
        mine = [];
        known = known;
        sure = sure;
        tests = [];
      }

  abbrev pub blank_view : View D
  blank_view = note_view 0 0 0 0

  -- the engine's seat at the start: it has the empty log, and makes the passes
  abbrev pub first_view : Shape → View D
  first_view shape = record (note_view shape.conns shape.len 0 0) { keeps = true; makes = true }

  -- the engine's seat makes the next pass
  abbrev pub made_one : View D → View D
  made_one v = record v { next = v.next + 1 }

  abbrev pub next_pass : View D → View D
  next_pass v = record (note_view v.conns v.len 0 0) { passes = true; owner = v.next }

  -- a note with the same numbers
  abbrev pub note_of : View D → View D
  note_of v = note_view v.conns v.len v.known v.sure

  -- the numbers of both
  abbrev pub told_of : View D → View D → View D
  told_of v w = record v { known = max v.known w.known; sure = max v.sure w.sure }

  -- the log goes from one seat to another, by a seat that has it alone
  abbrev pub without_log : View D → View D
  without_log v = record v { keeps = false; log = [] }

  abbrev pub log_alone : View D → View D
  log_alone v = record blank_view { keeps = true; log = v.log }

  abbrev pub with_log : View D → View D → View D
  with_log v w = record v { keeps = true; log = w.log }

  -- a word was stored
  abbrev pub stored_to : ℕ → ℕ → ℕ → View D → View D
  stored_to word bits stamp v = record v { log = v.log ++ Stored word bits stamp ∷ [] }

  -- these indices were tested in a word that was loaded
  abbrev pub tested_of : List ℕ → View D → ℕ → View D
  tested_of asked v word =
      let at = max v.known (stamp_of word) in
      record v { known = at; tests = v.tests ++ map (sight (bits_of word) at v.sure) asked }

  -- calls were committed under a number: one, where there is one item of data
  abbrev pub committed_of : ℕ → List D → View D → View D
  committed_of number about v =
      record v {
        log = v.log ++ map (Committed number v.owner) about;
        mine = v.mine ++ map (λ x. (number, x)) about;
        known = number;
        sure = number;
      }

  -- the count was loaded
  abbrev pub learned_of : View D → ℕ → View D
  learned_of v count = record v { known = max v.known count; sure = max v.sure count }

  -- the seat's new view, and it still holds no slot
  abbrev pub Becomes : Me ℕ (View D) → View D → Me ℕ (View D) → Type 0
  Becomes me w after = (after.0 ≡ w) × (after.1 ≡ me.1)
