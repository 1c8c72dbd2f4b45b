-- What contracts see of a pass and of a note, whatever the type of their structure.
use Rattle.std.specs.Prelude.{◌≡◌, ℕ, ◌≤◌, ◌==◌, ◌++◌, ◌∷◌, [], List, Option, find, map, option_map}
use Rattle.std.specs.Vec.{vec_capacity}
use Rattle.plex_script.specs.CfTypes.declared.numbers.ConnId.{ConnId}
use Rattle.plex_script.specs.EngineApi.declared.asks.Ask.{Ask}
use Rattle.plex_script.specs.EngineApi.declared.asks.Reply.{Reply}
use Rattle.plex_script.specs.EngineApi.declared.told.Told.{Told}
use Rattle.plex_script.specs.EngineApi.History.{Call}
use Rattle.plex_script.specs.declared.scripts.AnyAsk.{AnyAsk}
use Rattle.plex_script.specs.declared.scripts.AnyAsk.TheVariants as ask
use Rattle.plex_script.specs.Heard.{AnyCall, any_call}
use Rattle.struct_cell.specs.VecWords.declared.logged.Sight.{Sight}
use Rattle.struct_cell.specs.VecWords.Tokens.{WordTable, PassSeen, NoteSeen}
use Rattle.struct_cell.specs.Cells.{About}
use Rattle.plex_board.specs.declared.any_pass.AnyPass.{AnyPass}
use Rattle.plex_board.specs.declared.any_pass.AnyPass.TheVariants as pass
use Rattle.plex_board.specs.declared.any_pass.AnyPasses.{AnyPasses}
use Rattle.plex_board.specs.declared.any_pass.AnyPasses.TheVariants as passes
use Rattle.plex_board.specs.declared.any_reply.AnyReply.{AnyReply}
use Rattle.plex_board.specs.declared.any_reply.AnyReply.TheVariants as reply
use Rattle.plex_board.specs.declared.any_note.AnyNote.{AnyNote}
use Rattle.plex_board.specs.declared.any_note.AnyNote.TheVariants as note
use Rattle.plex_board.specs.Types.{StrType, OfCache, OfList, OfLock}

-- the reply to a call, with the call's number
pub record Replied : Type 0 where
  pub no : ℕ
  pub reply : AnyReply

-- a pass: the type of its structure, its words, its owner, the number that it knows, the number that it saw complete,
-- its owner's answered calls with what was told of each, the replies to them, and its tests
pub record PassShown : Type 0 where
  pub str_type : StrType
  pub words : WordTable
  pub owner : ConnId
  pub known : ℕ
  pub sure : ℕ
  pub calls : List AnyCall
  pub replies : List Replied
  pub tests : List Sight

-- a note: the type of its structure, its words, and the pass's numbers
pub record NoteShown : Type 0 where
  pub str_type : StrType
  pub words : WordTable
  pub known : ℕ
  pub sure : ℕ

-- ---- by the type of the structure

-- a caller's answered call
abbrev pub call_by : {C R : Type 0} → ConnId → ℕ × About C R → Call C R
call_by owner it = record { no = it.0; by = owner; ask = it.1.0; reply = it.1.1 }

-- the calls of a caller, as it heard of them
abbrev pub heard_by : {C R : Type 0} → (Ask C → AnyAsk) → ConnId → List (ℕ × About C R) → List AnyCall
heard_by of owner mine = map (λ it. any_call of (call_by owner it)) mine

-- the reply to a caller's answered call, and the replies to all of them
abbrev pub reply_by : {C R : Type 0} → (Reply R → AnyReply) → ℕ × About C R → Replied
reply_by told it = record { no = it.0; reply = told it.1.1 }

abbrev pub replies_by : {C R : Type 0} → (Reply R → AnyReply) → List (ℕ × About C R) → List Replied
replies_by told mine = map (reply_by told) mine

abbrev pub shown_as : {C R : Type 0} → StrType → (Ask C → AnyAsk) → (Reply R → AnyReply) → PassSeen (About C R)
    → PassShown
shown_as str_type of told seen = record {
  str_type = str_type;
  words = seen.table;
  owner = record { 0 = seen.owner };
  known = seen.known;
  sure = seen.sure;
  calls = heard_by of (record { 0 = seen.owner }) seen.mine;
  replies = replies_by told seen.mine;
  tests = seen.tests;
}

abbrev pub pass_shown : AnyPass → PassShown
pass_shown (pass.Cache seen) = shown_as OfCache ask.Cache reply.Cache seen
pass_shown (pass.List seen) = shown_as OfList ask.List reply.List seen
pass_shown (pass.Lock seen) = shown_as OfLock ask.Lock reply.Lock seen

abbrev pub passes_shown : AnyPasses → List PassShown
passes_shown (passes.Cache some) = map (shown_as OfCache ask.Cache reply.Cache) some.items
passes_shown (passes.List some) = map (shown_as OfList ask.List reply.List) some.items
passes_shown (passes.Lock some) = map (shown_as OfLock ask.Lock reply.Lock) some.items

abbrev pub type_of_passes : AnyPasses → StrType
type_of_passes (passes.Cache some) = OfCache
type_of_passes (passes.List some) = OfList
type_of_passes (passes.Lock some) = OfLock

-- for how many passes there is room
abbrev pub room_of : AnyPasses → ℕ
room_of (passes.Cache some) = vec_capacity some
room_of (passes.List some) = vec_capacity some
room_of (passes.Lock some) = vec_capacity some

abbrev pub noted_as : StrType → NoteSeen → NoteShown
noted_as str_type seen = record { str_type = str_type; words = seen.table; known = seen.known; sure = seen.sure }

abbrev pub note_shown : AnyNote → NoteShown
note_shown (note.Cache seen) = noted_as OfCache seen
note_shown (note.List seen) = noted_as OfList seen
note_shown (note.Lock seen) = noted_as OfLock seen

-- ---- what happens to a pass

-- the pass of a caller that has seen nothing
abbrev pub unused_pass : StrType → WordTable → ℕ → PassShown
unused_pass str_type words owner = record {
  str_type = str_type;
  words = words;
  owner = record { 0 = owner };
  known = 0;
  sure = 0;
  calls = [];
  replies = [];
  tests = [];
}

-- the pass once its owner's call was answered: it knows the call's number, has seen it complete, and has its reply
abbrev pub with_call : AnyAsk → Told → AnyReply → PassShown → PassShown
with_call asked told reply pass = record pass {
  known = told.no;
  sure = told.no;
  calls = pass.calls ++ record { no = told.no; by = pass.owner; ask = asked; told = told } ∷ [];
  replies = pass.replies ++ record { no = told.no; reply = reply } ∷ [];
}

-- the owner's call was answered, with what is told of it and a reply
pub record IsAnswered (asked : AnyAsk) (told : Told) (before after : PassShown) : Type 0 where
  pub reply : AnyReply
  pub pass : after ≡ with_call asked told reply before

-- the pass knows as much as before, or more
pub record IsLater (before after : PassShown) : Type 0 where
  pub known : before.known ≤ after.known
  pub sure : before.sure ≤ after.sure
  pub same : after ≡ record before { known = after.known; sure = after.sure }

-- what a pass tells
abbrev pub note_of : PassShown → NoteShown
note_of pass = record { str_type = pass.str_type; words = pass.words; known = pass.known; sure = pass.sure }

-- ---- replies

-- the reply to the call of this number, where it is among these
abbrev pub reply_numbered : ℕ → List Replied → Option AnyReply
reply_numbered number replies = option_map (λ it. it.reply) (find (λ it. it.no == number) replies)
