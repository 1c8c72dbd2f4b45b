-- What the lock of a cell keeps: how the journal, the words and the machine stand to one another.
use Rattle.std.specs.Prelude.{◌≡◌, ℕ, ◌+◌, ◌/◌, ◌<◌, ◌≤◌, Bool, List, Option, length, map, take, All}
use Rattle.cf_types.specs.declared.forms.StrForm.{StrForm}
use Rattle.cf_types.specs.declared.numbers.ConnId.{ConnId}
use Rattle.struct_machine.specs.CfLink.Links.{AreAsked}
use Rattle.engine_api.specs.declared.asks.Ask.{Ask}
use Rattle.engine_api.specs.declared.asks.Reply.{Reply}
use Rattle.engine_api.specs.declared.histories.Entry.{Entry}
use Rattle.engine_api.specs.Answers.{answers}
use Rattle.engine_api.specs.Meaning.{Meaning}
use Rattle.engine_api.specs.History.{Call, calls, replay, numbers, last_call_below, IsLegal}
use Rattle.struct_machine.specs.StructureView.{StructureView}
use Rattle.vec_words.specs.VecWorld.Log.{bits_at}
use Rattle.vec_words.specs.declared.logged.Logged.{Logged}
use Rattle.vec_words.specs.Logged.{CallRecord, steps_of, commits_of, count_of, words_of, word_number, bit_in}
use Rattle.vec_words.specs.Tokens.{SeatSeen}
use Rattle.struct_cell.specs.declared.inside.CellKey.{CellKey}
use Rattle.struct_cell.specs.Limits.{AreMadeBelow}
use Rattle.struct_cell.specs.Touches.{VectorWords, AreWordsOf}
use Rattle.struct_cell.specs.Words.{shown_in}

-- what the words are told of an answered call: what was asked, and the reply
abbrev pub About : Type 0 → Type 0 → Type 0
About C R = Ask C × Reply R

module _ {C R : Type 0} where
  -- a call as the words' log has it
  abbrev pub commit_of : Call C R → CallRecord (About C R)
  commit_of call = record { number = call.no; caller = call.by.0; about = (call.ask, call.reply) }

  -- a call as its caller has it
  abbrev pub own_call_of : Call C R → ℕ × About C R
  own_call_of call = (call.no, (call.ask, call.reply))

module _ {C R I S : Type 0} (meaning : Meaning C R I S) (form : StrForm) where
  -- the bit that a vector shows after a history, and after the last call below a number
  abbrev pub shown_after : List (Entry C R) → ConnId → ℕ → Bool
  shown_after history conn index = shown_in meaning form (replay meaning form history) conn index

  abbrev pub shown_below : List (Entry C R) → ℕ → ConnId → ℕ → Bool
  shown_below history n conn index = shown_after (take (last_call_below history n) history) conn index

  -- at each number the words have the bits after the last call up to it
  abbrev pub Shows : ℕ → List (Logged (About C R)) → List (Entry C R) → Type 0
  Shows conns log history =
      (n index : ℕ) (conn : ConnId) → 0 < conn.0 → conn.0 ≤ conns → index / 32 < words_of form.vector
      → bit_in (bits_at (steps_of log) (word_number form.vector conn.0 (index / 32)) n) index
      ≡ shown_below history (n + 1) conn index

-- What lies under the lock stands to what never changes. Nothing is in flight; the log's commits are the journal's
-- calls; the journal is legal, and leads to the machine; the words that are kept are those of the machine's bits; the
-- links were asked since the start as the journal's answers say; each call found room in it; and at each number the
-- words show what stood after the last call up to it.
pub record IsCell {C R I S L : Type 0} (asks : L → Option ℕ) (downs : L → Option (List ℕ)) (faults : L → ℕ)
    (meaning : Meaning C R I S) (key : CellKey C R L) (limit : ℕ) (standing : StructureView S L)
    (vectors : VectorWords) (journal : List (Entry C R)) (seat : SeatSeen (About C R)) : Type 0 where
  pub form : standing.form ≡ key.form
  pub limit_is : limit ≡ key.limit
  pub links : AreAsked asks downs faults (answers meaning key.form journal) key.links standing.links
  pub table : seat.table ≡ key.words
  pub vectors_of : (vectors.conns ≡ key.callers) × (vectors.len ≡ key.form.vector)
  pub words : AreWordsOf vectors.conns vectors.len vectors.words (meaning.stands standing.machine.content)
  pub conns : key.words.conns ≡ key.callers
  pub len : key.words.len ≡ key.form.vector
  pub idle : seat.number ≡ 0
  pub commits : commits_of seat.log ≡ map commit_of (calls journal)
  pub count : count_of seat.log ≡ length journal
  pub callers : All (λ call. call.by.0 ≤ key.callers) (calls journal)
  pub most : length journal ≤ key.limit + 2
  pub room : AreMadeBelow key.limit 0 (numbers journal)
  pub legal : IsLegal meaning key.form journal
  pub machine : standing.machine ≡ replay meaning key.form journal
  pub bits : Shows meaning key.form key.callers seat.log journal
