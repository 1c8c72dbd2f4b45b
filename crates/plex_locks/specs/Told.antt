-- What is told of a script whose lines were done by lock words, and when it is true.
use Rattle.std.specs.Prelude.{◌≡◌, ◌==◌, ◌+◌, ◌<◌, ◌++◌, ℕ, if◌then◌else◌, List, [], ◌∷◌, All, AllPairs, map, length, slice_get, slice_index, Some, codes}
use Rattle.std.specs.List.{flat_map}
use Rattle.std.specs.Fmt.{decimal}
use Rattle.plex_script.specs.CfTypes.declared.forms.StrForm.{StrForm}
use Rattle.plex_script.specs.CfTypes.declared.names.Name16.{Name16}
use Rattle.lock_words.specs.declared.view.Hold.{Hold}
use Rattle.lock_words.specs.Values.{says_excl, AreCompatible}
use Rattle.lock_words.specs.Hands.{HasValue}
use Rattle.plex_script.specs.PlexSpell.Tokens.{name_word}
use Rattle.plex_script.specs.PlexSpell.Words.{line_of, line_text}
use Rattle.plex_script.specs.PlexPlain.Naming.{resource_word}
use Rattle.plex_script.specs.PlexPlain.PlainWords.{state_word}
use Rattle.plex_script.specs.declared.scripts.Script.{Script}
use Rattle.plex_locks.specs.declared.requests.Request.{Request}
use Rattle.plex_locks.specs.declared.requests.Request.TheVariants.{Obtain, Release}
use Rattle.plex_locks.specs.declared.outcomes.Outcome.{Outcome}
use Rattle.plex_locks.specs.declared.outcomes.Outcome.TheVariants.{Granted, Held, Contended, Raced, Freed, NotHeld}
use Rattle.plex_locks.specs.declared.outcomes.Done.{Done}
use Rattle.plex_locks.specs.declared.told.HandTold.{HandTold}
use Rattle.plex_locks.specs.declared.told.Locked.{Locked}
use Rattle.plex_locks.specs.Requests.{tasks_by}
use Rattle.plex_locks.specs.Outcomes.{word_of, resource_of, left_by, FollowsOwn, IsOfOthers}
use Rattle.plex_locks.specs.Work.{AtLocks, asked_by, asked_in}

-- ---- the text

-- the value of a word that is held
abbrev pub value_words : ℕ → List (List ℕ)
value_words value = if says_excl value then codes "EXCL" ∷ [] else codes "SHR" ∷ decimal value ∷ []

abbrev pub outcome_words : Outcome → List (List ℕ)
outcome_words Granted = codes "GRANTED" ∷ []
outcome_words (Held excl) = codes "HELD" ∷ state_word excl ∷ []
outcome_words (Contended value) = codes "CONTENDED" ∷ value_words value
outcome_words Raced = codes "RACED" ∷ []
outcome_words Freed = codes "OK" ∷ []
outcome_words NotHeld = codes "NOTHELD" ∷ []

abbrev pub request_words : Request → List (List ℕ)
request_words (Obtain r excl) = codes "OBTAIN" ∷ resource_word r ∷ state_word excl ∷ []
request_words (Release r) = codes "RELEASE" ∷ resource_word r ∷ []

abbrev pub done_line : Done → List ℕ
done_line done = line_of (request_words done.request ++ codes "->" ∷ outcome_words done.outcome)

-- the structure whose words they are
abbrev pub structure_line : StrForm → List ℕ
structure_line form = line_of (codes "LOCKWORDS" ∷ name_word form.name ∷ decimal form.caps.entries ∷ [])

abbrev pub heading : HandTold → List ℕ
heading told = line_of (codes "HAND" ∷ name_word told.name ∷ decimal (length told.done) ∷ [])

abbrev pub hand_lines : HandTold → List (List ℕ)
hand_lines told = heading told ∷ map done_line told.done

-- a word that is held
abbrev pub word_line : ℕ → ℕ → List ℕ
word_line word value = line_of (codes "WORD" ∷ decimal word ∷ value_words value)

-- the words that are held, of those from this number on
abbrev pub word_lines : ℕ → List ℕ → List (List ℕ)
word_lines word [] = []
word_lines word (value ∷ values) =
    (if value == 0 then [] else word_line word value ∷ []) ++ word_lines (word + 1) values

abbrev pub locks_lines : Script → Locked → List (List ℕ)
locks_lines script told =
    map structure_line script.structures
    ++ (flat_map hand_lines told.hands ++ (word_lines 0 told.words ++ codes "END" ∷ []))

abbrev pub locks_text : Script → Locked → List ℕ
locks_text script told = flat_map line_text (locks_lines script told)

-- ---- what is true of it

-- how many words a script's lock structure has
abbrev pub entries_of : List StrForm → ℕ
entries_of [] = 0
entries_of (form ∷ forms) = form.caps.entries

abbrev pub dones_of : List HandTold → List (List Done)
dones_of hands = map (λ (told : HandTold). told.done) hands

-- what is told of a connector at work
abbrev pub told_of : AtLocks → HandTold
told_of worker = record { name = worker.name; done = worker.done }

-- what is told of a connector that did nothing
abbrev pub none_told : Name16 → HandTold
none_told name = record { name = name; done = [] }

-- what all connectors hold in the end
abbrev pub all_left : ℕ → List (List Done) → List Hold
all_left entries dones = flat_map (left_by entries []) dones

-- a connector's outcomes: it did its lines in their order, each outcome goes with its own earlier ones, and what is
-- told of others was another's
pub record IsHandTold (script : Script) (dones : List (List Done)) (place : ℕ) (told : HandTold) : Type 0 where
  pub name : slice_get script.connectors place ≡ Some told.name
  pub asked : asked_by told.done ≡ asked_in (tasks_by (record { 0 = 1 + place }) script.lines)
  pub own : FollowsOwn (entries_of script.structures) [] told.done
  pub others : All
      (λ (done : Done). IsOfOthers (entries_of script.structures) dones place
      (word_of (entries_of script.structures) (resource_of done.request)) done.outcome) told.done

-- what was told of the script is true: each word has the value of what the connectors' outcomes leave held, and these
-- locks are compatible
pub record IsLocked (script : Script) (told : Locked) : Type 0 where
  pub callers : length told.hands ≡ length script.connectors
  pub hands : (place : ℕ) (hand : HandTold) → slice_get told.hands place ≡ Some hand
      → IsHandTold script (dones_of told.hands) place hand
  pub count : length told.words ≡ entries_of script.structures
  pub words : (word : ℕ) → word < entries_of script.structures
      → HasValue (all_left (entries_of script.structures) (dones_of told.hands)) word (slice_index told.words word)
  pub compatible : AllPairs AreCompatible (all_left (entries_of script.structures) (dones_of told.hands))
