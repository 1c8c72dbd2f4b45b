-- The machine of vector words: what each step does to the world, and the world that a whole list of steps makes.
use Rattle.std.specs.Prelude.{◌+◌, ◌-◌, ◌*◌, ◌/◌, ◌%◌, ◌^◌, ◌==◌, ◌&&◌, ◌||◌, ℕ, Bool, not, List, [], ◌∷◌, ◌++◌, length}
use Rattle.std.specs.Prelude.{fold, max, nat_lt, if◌then◌else◌, slice_index, slice_set, take, replicate, Option, None}
use Rattle.std.specs.Prelude.{Some, slice_get}
use Rattle.vec_world.specs.declared.step.Step.{Step}
use Rattle.vec_world.specs.declared.step.Step.TheVariants.{Store, Commit, Load, LoadCount, Split, Join}
use Rattle.vec_world.specs.declared.world.World.{World}
use Rattle.vec_world.specs.Log.{Carries}

-- a word holds its bits in the lower half and its stamp in the upper half
abbrev pub bits_of : ℕ → ℕ
bits_of word = word % 2 ^ 32

abbrev pub stamp_of : ℕ → ℕ
stamp_of word = word / 2 ^ 32

abbrev pub word_of : ℕ → ℕ → ℕ
word_of bits stamp = stamp * 2 ^ 32 + bits

-- the word's two halves are the bits and the stamp of its last store
abbrev pub CarriesWord : List Step → ℕ → ℕ → Type 0
CarriesWord log word value = Carries log word (bits_of value) (stamp_of value)

-- the word of this number, and the number that this pass knows
abbrev pub word_at : World → ℕ → ℕ
word_at world word = slice_index world.words word

abbrev pub known_by : World → ℕ → ℕ
known_by world pass = slice_index world.known pass

-- at the start each word is 0, nothing is committed or in flight, no pass knows anything, and there is no note
abbrev pub start : ℕ → ℕ → World
start words passes =
    record { words = replicate words 0; count = 0; flying = 0; log = []; known = replicate passes 0; notes = [] }

-- a number is open where it is above the count, and is the one in flight if there is one
abbrev pub is_open : World → ℕ → Bool
is_open world number = nat_lt world.count number && ((world.flying == 0) || (world.flying == number))

-- there is a word, or a pass, of this number
abbrev pub has_word : World → ℕ → Bool
has_word world word = nat_lt word (length world.words)

abbrev pub has_pass : World → ℕ → Bool
has_pass world pass = nat_lt pass (length world.known)

-- a store can act where there is such a word, its stamp is open, and the word doesn't carry that stamp yet
abbrev pub can_store : World → ℕ → ℕ → Bool
can_store world word stamp =
    has_word world word && (is_open world stamp && not (stamp_of (word_at world word) == stamp))

-- the store's bits and stamp are in the word, its stamp is in flight, and it is logged
abbrev pub with_store : World → ℕ → ℕ → ℕ → World
with_store world word bits stamp =
    record world {
      words = slice_set world.words word (word_of bits stamp);
      flying = stamp;
      log = world.log ++ Store word bits stamp ∷ [];
    }

-- the number is the count, nothing is in flight, and the commit is logged
abbrev pub with_commit : World → ℕ → World
with_commit world number = record world { count = number; flying = 0; log = world.log ++ Commit number ∷ [] }

-- the pass, where there is one, knows the larger of what it knew and this number
abbrev pub with_learned : World → ℕ → ℕ → World
with_learned world pass number =
    if has_pass world pass then record world { known = slice_set world.known pass (max (known_by world pass) number) }
    else world

-- the pass's number stands last among the notes
abbrev pub with_note : World → ℕ → World
with_note world pass = record world { notes = world.notes ++ known_by world pass ∷ [] }

-- the last note is taken away and the pass learns its number; with no note nothing happens
abbrev pub with_note_told : World → ℕ → Option ℕ → World
with_note_told world into None = world
with_note_told world into (Some note) = record (with_learned world into note) {
  notes =
      take (length world.notes - 1) world.notes;
}

-- what one step does. A step that can't act does nothing: nor does one that names a word or a pass that isn't there
abbrev pub act : World → Step → World
act world (Store word bits stamp) = if can_store world word stamp then with_store world word bits stamp else world
act world (Commit number) = if is_open world number then with_commit world number else world
act world (Load pass word) = if has_word world word then with_learned world pass (stamp_of (word_at world word))
    else world
act world (LoadCount pass) = with_learned world pass world.count
act world (Split pass) = if has_pass world pass then with_note world pass else world
act world (Join into) = if has_pass world into then with_note_told world into
    (slice_get world.notes (length world.notes - 1)) else world

-- the world that a whole list of steps makes of the start
abbrev pub world_of : ℕ → ℕ → List Step → World
world_of words passes steps = fold act (start words passes) steps
