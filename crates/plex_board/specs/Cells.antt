-- What contracts see of a cell, what goes with it, and what its history says of its callers.
use Rattle.std.specs.Prelude.{◌≡◌, ℕ, List, map}
use Rattle.plex_script.specs.CfTypes.declared.forms.StrForm.{StrForm}
use Rattle.plex_script.specs.CfTypes.declared.numbers.ConnId.{ConnId}
use Rattle.struct_cell.specs.CfLink.declared.links.Links.{Links}
use Rattle.plex_script.specs.EngineApi.declared.asks.Reply.{Reply}
use Rattle.plex_script.specs.EngineApi.History.{Call, own}
use Rattle.lock_model.specs.Meaning.{lock_meaning}
use Rattle.plex_script.specs.declared.scripts.AnyAsk.{AnyAsk}
use Rattle.plex_script.specs.declared.asks.AnyHistory.{AnyHistory}
use Rattle.plex_script.specs.declared.asks.AnyHistory.TheVariants as history
use Rattle.struct_cell.specs.VecWords.declared.logged.Sight.{Sight}
use Rattle.struct_cell.specs.VecWords.Tokens.{WordTable}
use Rattle.struct_cell.specs.declared.inside.CellKey.{CellKey}
use Rattle.struct_cell.specs.Telling.{IsTold}
use Rattle.run_shown.specs.QueueModel.ListQueues.{queued_lists}
use Rattle.run_shown.specs.Meanings.{altered_caches}
use Rattle.plex_board.specs.declared.any_cell.AnyCell.{AnyCell}
use Rattle.plex_board.specs.declared.any_cell.AnyCell.TheVariants as cell
use Rattle.plex_board.specs.declared.any_reply.AnyReply.{AnyReply}
use Rattle.plex_board.specs.declared.any_reply.AnyReply.TheVariants as reply
use Rattle.plex_board.specs.Types.{StrType, OfCache, OfList, OfLock, type_of_ask}
use Rattle.plex_board.specs.Passes.{PassShown, NoteShown, Replied}

-- a cell: the type of its structure, and what of it never changes
pub record CellShown (L : Type 0) : Type 0 where
  pub str_type : StrType
  pub form : StrForm
  pub callers : ℕ
  pub limit : ℕ
  pub words : WordTable
  pub links : Links L

abbrev pub keyed_as : {C R L : Type 0} → StrType → CellKey C R L → CellShown L
keyed_as str_type key = record {
  str_type = str_type;
  form = key.form;
  callers = key.callers;
  limit = key.limit;
  words = key.words;
  links = key.links;
}

-- (a cell of whatever type is one over three engines, of which each has its items, its order and its states)
module _ {K L Cache List' Lock Item1 Order1 State1 Item2 Order2 State2 Item3 Order3 State3 : Type 0} where
  abbrev pub cell_shown : AnyCell K L Cache List' Lock Item1 Order1 State1 Item2 Order2 State2 Item3 Order3 State3
      → CellShown L
  cell_shown (cell.Cache key) = keyed_as OfCache key
  cell_shown (cell.List key) = keyed_as OfList key
  cell_shown (cell.Lock key) = keyed_as OfLock key

-- ---- what goes with a cell

abbrev pub IsPassOf : {L : Type 0} → CellShown L → PassShown → Type 0
IsPassOf cell pass = (pass.str_type ≡ cell.str_type) × (pass.words ≡ cell.words)

abbrev pub IsNoteOf : {L : Type 0} → CellShown L → NoteShown → Type 0
IsNoteOf cell note = (note.str_type ≡ cell.str_type) × (note.words ≡ cell.words)

abbrev pub IsAskOf : {L : Type 0} → CellShown L → AnyAsk → Type 0
IsAskOf cell asked = type_of_ask asked ≡ cell.str_type

-- ---- what a history says

-- a caller's test tells what stood at a numbered point that isn't before anything its caller had seen complete
abbrev pub IsAnyTold : StrForm → AnyHistory → ConnId → Sight → Type 0
IsAnyTold form (history.Cache entries) owner test = IsTold altered_caches form entries owner.0 test
IsAnyTold form (history.List entries) owner test = IsTold queued_lists form entries owner.0 test
IsAnyTold form (history.Lock entries) owner test = IsTold lock_meaning form entries owner.0 test

-- the replies to a caller's own calls, with their numbers, in order
abbrev pub replied : {C R : Type 0} → (Reply R → AnyReply) → Call C R → Replied
replied told call = record { no = call.no; reply = told call.reply }

abbrev pub own_replies : AnyHistory → ConnId → List Replied
own_replies (history.Cache entries) owner = map (replied reply.Cache) (own entries owner)
own_replies (history.List entries) owner = map (replied reply.List) (own entries owner)
own_replies (history.Lock entries) owner = map (replied reply.Lock) (own entries owner)
